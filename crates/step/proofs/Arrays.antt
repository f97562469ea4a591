-- The arrays of a record have their lengths: those of a fresh record, and after an entry.
use Prim.Native.Nat.{ℕ}
use mathlib.Core.Path.{◌≡◌, refl, ◌∙◌}
use mathlib.Core.Bool.{Bool, true, false, cond}
use mathlib.Core.List.{List}
use lib.ListN.{length, set, replicate, length-set}
use Rattle.rules.specs.Commands.{Command, ACT, PREA, is, bank_of}
use Rattle.rules.specs.Whose.{Whose, is_of}
use Rattle.rules.specs.Levels.{Move}
use Rattle.card.specs.declared.Card.{Card}
use Rattle.card.specs.declared.Modes.{Modes}
use Rattle.ledger.specs.declared.Ledger.{Ledger}
use Rattle.ledger.specs.declared.Pace.{Pace}
use Rattle.bank.specs.declared.Each.{Each}
use Rattle.bank.specs.declared.NotedEach.{NotedEach}
use Rattle.bank.specs.declared.Share.{Share}
use Rattle.bank.specs.declared.Ledgers.{Ledgers}
use Rattle.bank.specs.declared.Record.{Record}
use Rattle.bank.specs.Values.{never_each, never_noted_each, fresh_share, start_of, fresh_of}
use Rattle.bank.specs.After.{each_if, noted_each_if, shuts, opened_after, stamped_after, banks_after, share_after, with_ledger, share_taken, record_after}
use Rattle.bank.proofs.Sizes.{EachWhole, NotedWhole, ShareWhole, Whole}

fresh_share_lem : (m : Modes) → ShareWhole (fresh_share m)
unfolding fresh_share never_each never_noted_each
fresh_share_lem m = record {
  opened = refl;
  refpb = each;
  pre = each;
  act = each;
  rd = each;
  rda = each;
  wr = noted;
  wra = noted;
}
  where
    each : EachWhole never_each
    each = unfold never_each in record { seen = refl; at = refl }

    noted : NotedWhole never_noted_each
    noted = unfold never_noted_each in record { seen = refl; at = refl; modes = refl }

pub fresh_whole : (card : Card) → Whole (fresh_of card)
unfolding fresh_of
fresh_whole card = record { first = fresh_share_lem (start_of card); second = fresh_share_lem (start_of card) }

each_kept : (now : Bool) (k t : ℕ) (x : Each) → EachWhole x → EachWhole (each_if now k t x)
unfolding each_if
each_kept true k t x w = record { seen = length-set x.seen k true ∙ w.seen; at = length-set x.at k t ∙ w.at }
each_kept false k t x w = w

noted_kept : (now : Bool) (k t : ℕ) (m : Modes) (x : NotedEach) → NotedWhole x → NotedWhole (noted_each_if now k t m x)
unfolding noted_each_if
noted_kept true k t m x w = record {
  seen = length-set x.seen k true ∙ w.seen;
  at = length-set x.at k t ∙ w.at;
  modes = length-set x.modes k m ∙ w.modes;
}
noted_kept false k t m x w = w

set_if : (b : Bool) (k : ℕ) (v : Bool) (o : List Bool) → length o ≡ 8 → length (cond b (set o k v) o) ≡ 8
set_if true k v o w = length-set o k v ∙ w
set_if false k v o w = w

opened_kept : (c : Command) (o : List Bool) → length o ≡ 8 → length (opened_after c o) ≡ 8
unfolding opened_after
opened_kept c o w =
    let cleared = cond (is PREA c) (replicate 8 false) o in
    set_if (is ACT c) (bank_of c) true (cond (shuts c) (set cleared (bank_of c) false) cleared) (set_if (shuts c) (bank_of c) false cleared (go (is PREA c)))
  where
    go : (b : Bool) → length (cond b (replicate 8 false) o) ≡ 8
    go true = refl
    go false = w

after_share : (s : Share) (c : Command) (v : Move) (t : ℕ) (g : Ledger) → ShareWhole s → ShareWhole (share_after s c v t g)
unfolding share_after banks_after stamped_after
after_share s c v t g w = record {
  opened = opened_kept c s.banks.opened w.opened;
  refpb = each_kept _ _ t s.banks.refpb w.refpb;
  pre = each_kept _ _ t s.banks.pre w.pre;
  act = each_kept _ _ t s.banks.act w.act;
  rd = each_kept _ _ t s.banks.rd w.rd;
  rda = each_kept _ _ t s.banks.rda w.rda;
  wr = noted_kept _ _ t _ s.banks.wr w.wr;
  wra = noted_kept _ _ t _ s.banks.wra w.wra;
}

ledger_share : (s : Share) (g : Ledger) → ShareWhole s → ShareWhole (with_ledger s g)
ledger_share s g w = record {
  opened = w.opened;
  refpb = w.refpb;
  pre = w.pre;
  act = w.act;
  rd = w.rd;
  rda = w.rda;
  wr = w.wr;
  wra = w.wra;
}

taken_share : (own : Bool) (s : Share) (c : Command) (v : Move) (t : ℕ) (g : Ledger) → ShareWhole s → ShareWhole (share_taken own s c v t g)
unfolding share_taken
taken_share true s c v t g w = after_share s c v t g w
taken_share false s c v t g w = ledger_share s g w

pub after_whole : (r : Record) (o : Whose) (c : Command) (v : Move) (t : ℕ) (g : Ledgers) (z : Pace) → Whole r → Whole (record_after r o c v t g z)
unfolding record_after
after_whole r o c v t g z w = record {
  first = taken_share (is_of 0 o) r.first c v t g.first w.first;
  second = taken_share (is_of 1 o) r.second c v t g.second w.second;
}
