-- The line of an entry is short.
use Rattle.std.proofs.Common.{ℕ, ◌^◌, ◌<◌, ◌≤◌, Bool, true, false, cond, [], ◌∷◌, length, arith, length-append}
use Rattle.rules.specs.Commands.{Kind, NOP, MRW, MRR, REFPB, REFAB, ACT, RD, WR, PRE, PREA, RESERVED, Command, kind_of, ap_of}
use Rattle.rules.specs.Whose.{Whose, sole, part, neither, both, part_of}
use Rattle.rules.specs.Past.{bank_at}
use Rattle.rules.specs.Lines.{decimal, name_of, shows_bank, shown_part, entry_line}
use Rattle.lines.proofs.Decimals.{short}

name_short : (k : Kind) (ap : Bool) → length (name_of k ap) ≤ 5
unfolding name_of
name_short NOP ap = omega arith
name_short MRW ap = omega arith
name_short MRR ap = omega arith
name_short REFPB ap = omega arith
name_short REFAB ap = omega arith
name_short ACT ap = omega arith
name_short RD true = omega arith
name_short RD false = omega arith
name_short WR true = omega arith
name_short WR false = omega arith
name_short PRE ap = omega arith
name_short PREA ap = omega arith
name_short RESERVED ap = omega arith

bank_short : (b : Bool) (x : ℕ) → x ≤ 7 → length (cond b (decimal x) (45 ∷ [])) ≤ 1
bank_short true x h = short 0 x (omega arith)
bank_short false x h = omega arith

part_short : (w : Whose) → part_of w < 2 → length (shown_part w) ≤ 2
unfolding shown_part part_of
part_short sole h = omega arith
part_short (part p) h = omega (arith, short 0 p (omega arith))
part_short neither h = omega arith
part_short both h = omega arith

pub entry_short : (t : ℕ) (c : Command) (w : Whose) (n : ℕ) → t < 2 ^ 32 → bank_at c n ≤ 7 → part_of w < 2 → length (entry_line t c w n) ≤ 24
unfolding entry_line
entry_short t c w n h b p =
    simp length-append
    (omega (
      arith,
      short 9 t (omega arith),
      name_short (kind_of c) (ap_of c),
      bank_short (shows_bank (kind_of c)) (bank_at c n) b,
      part_short w p,
    ))
