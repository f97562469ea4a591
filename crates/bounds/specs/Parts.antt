-- The private types of the code, read as questions, answers, banks and delays of the rules; the bounds by rule.
use Rattle.std.specs.Prelude.{ℕ, zero, suc, ◌+◌, ◌-◌, max, Bool, cond, List, [], ◌∷◌, map, leb, ltb, get_or}
use Rattle.std.specs.Prelude as rust
use Rattle.std.specs.Prelude.{None, Some}
use Rattle.std.proofs.Math.Option.{Option, none, some}
use Rattle.rules.specs.Levels.{Move, stays}
use Rattle.rules.specs.Commands.{banks}
use Rattle.rules.specs.Registers.{rl_of, wl_of, nwr_of}
use Rattle.rules.specs.Registers as registers
use Rattle.rules.specs.Folds.{Source, bound}
use Rattle.rules.specs.Folds as folds
use Rattle.rules.specs.Delays as paper
use Rattle.rules.specs.Delays.{Question, without}
use Rattle.card.specs.Values.{modes_of, clocks_of}
use Rattle.card.specs.declared.Delays.{Delays}
use Rattle.pins.specs.Values.{command_of, moved_of}
use Rattle.pins.specs.declared.Command.{Command}
use Rattle.bank.specs.Values.{entry, no_modes, idle_bus, fresh_share}
use Rattle.bank.specs.declared.Bus.{Bus}
use Rattle.bank.specs.declared.Share.{Share}
use Rattle.bounds.specs.Values.{look_with}
use Rattle.bounds.specs.declared.answers.Ask.{Ask}
use Rattle.bounds.specs.declared.answers.Ask.TheVariants.{Mrw, Mrr, Refab, Refpb, RefpbTo, PreTo, PreaTo, ActTo, FourthLast, Rd, Wr, RdOrMrr, RdTo, RdaTo, WrTo, WraTo, Fall, PowerExit, SelfExit}
use Rattle.bounds.specs.declared.answers.Found.{Found}
use Rattle.bounds.specs.declared.banks.Banks.{Banks}
use Rattle.bounds.specs.declared.banks.Banks.TheVariants.{One, Every, AllBut}
use Rattle.bounds.specs.declared.offer.Offer.{Offer}
use Rattle.bounds.specs.declared.delays.Lag.{Lag}
use Rattle.bounds.specs.declared.delays.Lag.TheVariants.{Plain, Written, Turned, Recovered}

-- the bounds of the rules, by rising number
unfoldable pub bounds_of : Share → Bus → Delays → Command → Move → List ℕ
bounds_of s x d c v = map (bound (look_with s x)) (paper.delay_rules (clocks_of d) (command_of c) v s.counter)

-- the places of the table: rules 1 to 18, then 21 to 27
unfoldable pub rule_at : (place : ℕ) → ℕ
rule_at i = i + cond (ltb i 18) 1 3

unfoldable pub place_of : (rule : ℕ) → ℕ
place_of k = k - cond (ltb k 19) 1 3

-- rule k's: one that asks the part alone, and one that asks the other part, whatever the own share is
unfoldable pub bound_of : Share → Delays → Command → Move → ℕ → ℕ
bound_of s d c v k = get_or (bounds_of s idle_bus d c v) (place_of k) 0

-- the same of an offer, whatever its move is, and by its move
abbrev pub still_of : Offer → ℕ → ℕ
still_of o k = bound_of o.share.now o.delays.now o.command stays k

abbrev pub moving_of : Offer → ℕ → ℕ
moving_of o k = bound_of o.share.now o.delays.now o.command (moved_of o.moved) k

unfoldable pub across_of : Bus → Delays → Command → ℕ → ℕ
across_of x d c k = get_or (bounds_of (fresh_share no_modes) x d c stays) (place_of k) 0

-- the first of these, which stand from place i on
unfoldable pub broken_from : (i : ℕ) → List ℕ → (stamp : ℕ) → Option (ℕ × ℕ)
broken_from i [] t = none
broken_from i (b ∷ bs) t = cond (leb b t) (broken_from (suc i) bs t) (some (rule_at i, b))

unfoldable pub greatest_of : List ℕ → ℕ
greatest_of [] = 0
greatest_of (b ∷ bs) = max b (greatest_of bs)

-- ---- questions and answers
unfoldable pub ask_of : Ask → paper.Ask
ask_of Mrw = paper.last_mrw
ask_of Mrr = paper.last_mrr
ask_of Refab = paper.last_refab
ask_of Refpb = paper.last_refpb
ask_of RefpbTo = paper.last_refpb_to
ask_of PreTo = paper.last_pre_to
ask_of PreaTo = paper.last_prea_to
ask_of ActTo = paper.last_act_to
ask_of FourthLast = paper.fourth_last
ask_of Rd = paper.last_rd
ask_of Wr = paper.last_wr
ask_of RdOrMrr = paper.last_rd_or_mrr
ask_of RdTo = paper.last_rd_to
ask_of RdaTo = paper.last_rda_to
ask_of WrTo = paper.last_wr_to
ask_of WraTo = paper.last_wra_to
ask_of Fall = paper.last_fall
ask_of PowerExit = paper.last_power_exit
ask_of SelfExit = paper.last_self_exit

unfoldable pub asked_for : Ask → ℕ → Question
asked_for a b = record { ask = ask_of a; bank = b }

unfoldable pub answer_of : rust.Option Found → Option (folds.Found registers.Modes)
answer_of None = none
answer_of (Some x) = some (entry x.at (modes_of x.modes))

-- the first answer, unless the second came later
unfoldable pub unless_later : Option (folds.Found registers.Modes) → Option (folds.Found registers.Modes) → Option (folds.Found registers.Modes)
unless_later none y = none
unless_later (some x) none = some x
unless_later (some x) (some y) = cond (ltb x.stamp y.stamp) none (some x)

-- ---- the banks asked for
unfoldable pub banks_but : rust.Option ℕ → List ℕ → List ℕ
banks_but None bs = bs
banks_but (Some b) bs = without b bs

unfoldable pub asked_of : rust.Option Banks → List ℕ
asked_of None = []
asked_of (Some (One b)) = b ∷ []
asked_of (Some Every) = banks
asked_of (Some (AllBut b)) = without b banks

-- ---- delays
unfoldable pub delay_in : Lag → (clocks : ℕ) → registers.Modes → ℕ
delay_in Plain d m = d
delay_in Written d m = wl_of m.mr2 + d
delay_in Turned d m = rl_of m.mr2 + d - wl_of m.mr2
delay_in (Recovered w) d m = wl_of m.mr2 + nwr_of w m + d

unfoldable pub permitted_after : Lag → (clocks : ℕ) → Option (folds.Found registers.Modes) → ℕ
permitted_after g d none = 0
permitted_after g d (some f) = f.stamp + delay_in g d f.noted

-- by the other part, raised by the gap
unfoldable pub raised_after : Lag → (clocks gap : ℕ) → Option (folds.Found registers.Modes) → ℕ
raised_after g d h none = 0
raised_after g d h (some f) = permitted_after g d (some f) + h

unfoldable pub sources_of : List ℕ → Ask → Lag → (clocks : ℕ) → List (Source Question registers.Modes)
sources_of bs a g d = map (λ b. record { ask = asked_for a b; delay = delay_in g d }) bs
