-- The sources of a rule by whom they ask: what the own part's answers alone permit, and what the other part's bus does.
use Prim.Native.Nat.{ℕ, ◌+◌, max}
use mathlib.Core.Path.{◌≡◌, refl}
use mathlib.Core.Bool.{Bool, true, false, cond}
use mathlib.Core.List.{List, [], ◌∷◌, ◌++◌, map}
use mathlib.Core.Option.{Option, none, some}
use native.Mathlib.Omega.{arith}
use lib.ListN.{get_elem?}
use Rattle.rules.specs.Lists.{when}
use Rattle.rules.specs.Registers.{Modes}
use Rattle.rules.specs.Folds.{Found, Source, permitted, permitted_by}
use Rattle.rules.specs.Delays as paper
use Rattle.rules.specs.Delays.{Asked, mine, turned, Answers, look_both, across, last_rd, last_wr, last_rd_or_mrr, means, latest_of, lagging_of}
use Rattle.rules.specs.Lent.{look_in}
use Rattle.bank.specs.Values.{once, noted, heard, bus_look}
use Rattle.bank.specs.declared.Bus.{Bus}
use Rattle.bounds.specs.Parts.{asked_for, delay_in, permitted_after, raised_after, sources_of}
use Rattle.bounds.specs.declared.answers.Ask.{Ask}
use Rattle.bounds.specs.declared.delays.Lag.{Lag}
use Rattle.bounds.proofs.Spanned.{same_permitted}

-- for each of these banks, a delay from the answer to this question
abbrev each : List ℕ → paper.Ask → (Modes → ℕ) → List (Source Asked Modes)
each bs a d = map (λ b. record { ask = mine (record { ask = a; bank = b }); delay = d }) bs

-- the own part is asked, whatever the other one answers
module _ (own others : Answers) (a : Ask) (g : Lag) (x : ℕ) (d : Modes → ℕ) (e : (m : Modes) → d m ≡ delay_in g x m) where
  abbrev first : ℕ → Source Asked Modes
  first b = record { ask = mine (asked_for a b); delay = d }

  pub own_asked : (bs : List ℕ) → permitted_by (look_both own others) (map first bs) ≡ permitted_by own (sources_of bs a g x)
  unfolding permitted_by sources_of look_both
  own_asked [] = refl
  own_asked (b ∷ bs) =
      rw (
        same_permitted (first b) g x (own (asked_for a b)) e,
        same_permitted (record { ask = asked_for a b; delay = delay_in g x }) g x (own (asked_for a b)) (λ m. refl),
        own_asked bs,
      )

-- what an entry of the other part permits, where it is asked, raised by the gap
abbrev pub far : (wanted : Bool) → Option (Found Modes) → Lag → (clocks gap : ℕ) → ℕ
far w o g x h = cond w (raised_after g x h o) 0

pub far_asked : (own others : Answers) (w : Bool) (b : ℕ) (o : Option (Found Modes)) (a : paper.Ask) (g : Lag) (x h : ℕ) (d : Modes → ℕ)
    → ((m : Modes) → d m ≡ delay_in g x m) → others (record { ask = a; bank = b }) ≡ o
    → permitted_by (look_both own others) (across h (each (when w (b ∷ [])) a d)) ≡ far w o g x h
unfolding across when permitted_by turned look_both
far_asked own others false b o a g x h d e q = refl
far_asked own others true b o a g x h d e q = rw q (raised o)
  where
    raised : (o : Option (Found Modes)) → max (permitted (record { ask = turned (mine (record { ask = a; bank = b })); delay = λ m. d m + h }) o) 0 ≡ raised_after g x h o
    raised none = unfold permitted raised_after in refl
    raised (some f) = unfold permitted permitted_after raised_after in omega (arith, e f.noted)

pub across_both : (h : ℕ) (xs ys : List (Source Asked Modes)) → across h (xs ++ ys) ≡ across h xs ++ across h ys
unfolding across
across_both h [] ys = refl
across_both h (x ∷ xs) ys = rw (across_both h xs ys)

-- what a bus answers, for any bank
module _ (x : Bus) (b : ℕ) where
  pub rd_heard : bus_look x (record { ask = last_rd; bank = b }) ≡ get_elem? (once x.rd) 0
  unfolding bus_look look_in heard means latest_of
  rd_heard = refl

  pub wr_heard : bus_look x (record { ask = last_wr; bank = b }) ≡ get_elem? (noted x.wr) 0
  unfolding bus_look look_in heard means lagging_of
  wr_heard = refl

  pub turn_heard : bus_look x (record { ask = last_rd_or_mrr; bank = b }) ≡ get_elem? (noted x.turn) 0
  unfolding bus_look look_in heard means lagging_of
  turn_heard = refl
