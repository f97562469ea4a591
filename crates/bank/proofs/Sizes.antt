-- The lengths of a record's arrays, which every record in the code has.
use Prim.Native.Nat.{ℕ}
use mathlib.Core.Path.{◌≡◌, sym, ◌∙◌}
use mathlib.Core.Bool.{Bool}
use mathlib.Core.List.{List, map}
use lib.ListN.{length, length-map}
use Rattle.card.specs.declared.Modes.{Modes}
use Rattle.bank.specs.declared.Each.{Each}
use Rattle.bank.specs.declared.NotedEach.{NotedEach}
use Rattle.bank.specs.declared.Share.{Share}
use Rattle.bank.specs.declared.Record.{Record}

-- as owning an array tells it: of structs, each by its fields; of numbers and of flags
pub held_by : {A : Type 0} (B : Type 0) (f : A → B) (xs : List A) {n : ℕ} → length (map f xs) ≡ n → length xs ≡ n
held_by B f xs e = sym (length-map xs f) ∙ e

pub held : {A : Type 0} (xs : List A) {n : ℕ} → length (map (λ (v : A). v) xs) ≡ n → length xs ≡ n
held {A} xs e = held_by A (λ v. v) xs e

pub record EachWhole (x : Each) : Type 0 where
  pub seen : length x.seen ≡ 8
  pub at : length x.at ≡ 8

pub record NotedWhole (x : NotedEach) : Type 0 where
  pub seen : length x.seen ≡ 8
  pub at : length x.at ≡ 8
  pub modes : length x.modes ≡ 8

pub each_whole : (x : Each) → length (map (λ (v : Bool). v) x.seen) ≡ 8 → length (map (λ (v : ℕ). v) x.at) ≡ 8 → EachWhole x
each_whole x s a = record { seen = held x.seen s; at = held x.at a }

pub noted_whole : (B : Type 0) (f : Modes → B) (x : NotedEach) → length (map (λ (v : Bool). v) x.seen) ≡ 8 → length (map (λ (v : ℕ). v) x.at) ≡ 8
    → length (map f x.modes) ≡ 8 → NotedWhole x
noted_whole B f x s a m = record { seen = held x.seen s; at = held x.at a; modes = held_by B f x.modes m }

pub record ShareWhole (s : Share) : Type 0 where
  pub opened : length s.banks.opened ≡ 8
  pub refpb : EachWhole s.banks.refpb
  pub pre : EachWhole s.banks.pre
  pub act : EachWhole s.banks.act
  pub rd : EachWhole s.banks.rd
  pub rda : EachWhole s.banks.rda
  pub wr : NotedWhole s.banks.wr
  pub wra : NotedWhole s.banks.wra

pub record Whole (r : Record) : Type 0 where
  pub first : ShareWhole r.first
  pub second : ShareWhole r.second
