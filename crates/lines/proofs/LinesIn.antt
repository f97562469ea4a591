-- The lines of entries that stand one behind the other, one more at a time.
use Rattle.std.proofs.Common.{◌≡◌, ℕ, zero, suc, ◌+◌, ◌-◌, ◌*◌, ◌/◌, ◌%◌, ◌<◌, Bool, true, false, cond, List, [], ◌++◌, length, get_or, get_or-take, take, drop, sym, refl, ap, ◌∙◌, append_assoc, append-nil, add-one, arith, drop-drop}
use Rattle.std.specs.Prelude.{Option, unwrap_or}
use Rattle.std.specs.Simd.{first_chunks}
use borrow.Rule.Slice.PartMut.{put_mid}
use Rattle.rules.specs.Commands.{Command}
use Rattle.rules.specs.Pins.{decode}
use Rattle.rules.specs.Levels.{Level, awake, power_down, self_refresh, deep, Move, level_after, Read, plain, read_as}
use Rattle.rules.specs.Whose.{Whose, whose, is_of, part_of}
use Rattle.rules.specs.Entries.{command_of, recorded_as, move_of}
use Rattle.pins.specs.declared.Front.{Front}
use Rattle.pins.specs.Counter.{counter_on}
use Rattle.pins.specs.Fronts.{front_as}
use Rattle.pins.proofs.Fronts.{front_take}
use Rattle.lines.specs.declared.runs.Next.{Next}
use Rattle.lines.specs.declared.tails.Tail.{Tail}
use Rattle.lines.specs.Written.{Lined}
use Rattle.lines.specs.Stamps.{last_four, LeadGood}
use Rattle.lines.specs.Quick.{high_at, level_with, tail_part, TailOn}
use Rattle.lines.specs.Runs.{Standing, standing, counter_for, counter_if, standing_after, standing_of, front_in, line_on, next_on, line_at, next_at, lines_at, stands_at, Added}
use Rattle.lines.proofs.Puts.{lined_nothing, lined_more}
use Rattle.lines.proofs.Leading.{lead_digits}
use Rattle.lines.proofs.Joined.{quick_joined}

-- ---- what it is, and what stands behind it
pub after_any : (w : Whose) (r : Read) (x : Standing) {l : Level} {n k : ℕ} {c : Command} {m : Move} → c ≡ recorded_as r → m ≡ move_of r
    → l ≡ level_after m x.level → n ≡ cond (is_of 0 w) (counter_on c m x.counter) x.counter → k ≡ cond (is_of 1 w) (counter_on c m x.second) x.second
    → standing l n k ≡ standing_after w r x
unfolding standing_after counter_if
after_any w r x a b c d e = rw (c, d, e, a, b)

module _ (sleeps paired : Bool) (l : Level) (p n k : ℕ) {t : Tail} (one : paired ≡ false) (up : l ≡ awake) (on : TailOn p t) where
  quick_read : read_as sleeps paired l p ≡ plain (decode p)
  quick_read = rw (one, up) (on.reads sleeps)

  pub quick_line : {base size : ℕ} {text : List ℕ} (rest : ℕ) → LeadGood base text size → rest < 10000
      → take size text ++ last_four rest ++ tail_part t (48 + p / 128 % 8) ≡ line_on sleeps paired (base + rest) p (standing l n k)
  unfolding recorded_as whose counter_for part_of
  quick_line {base} rest good h = rw (lead_digits rest good h, quick_read, one) (quick_joined (base + rest) (command_of (decode p)) n _ (on.good.text n))

  pub quick_after : standing l n k ≡ next_on sleeps paired p (standing l n k)
  unfolding standing_after counter_if is_of whose recorded_as move_of level_after
  quick_after = rw (quick_read, one, on.good.still n)

-- what the test tells that lets a line be put by its parts
pub stamp_is : {base size : ℕ} {text : List ℕ} (stamp : ℕ) → LeadGood base text size → stamp < 4294967296 → (stamp + (4294967296 - base)) % 4294967296 < 10000
    → stamp ≡ base + (stamp + (4294967296 - base)) % 4294967296
stamp_is stamp good h l = let u = good.upto in omega arith

-- the one part alone has a tail, and awake
pub high_awake : (paired : Bool) (high : ℕ) → high ≡ high_at paired (level_with high) → high < 4096 → (paired ≡ false) × (level_with high ≡ awake) × (high ≡ 2)
high_awake paired high e h = go paired (level_with high) e
  where
    go : (d : Bool) (l : Level) → high ≡ high_at d l → (d ≡ false) × (l ≡ awake) × (high ≡ 2)
    go false awake e = (refl, refl, unfold high_at in e)
    go true awake e = absurd (never (unfold high_at in e))
      where
        never : high ≡ 4099 → ⊥
        never e = omega arith
    go d power_down e = absurd (never (unfold high_at in e))
      where
        never : high ≡ 4096 → ⊥
        never e = omega arith
    go d self_refresh e = absurd (never (unfold high_at in e))
      where
        never : high ≡ 4097 → ⊥
        never e = omega arith
    go d deep e = absurd (never (unfold high_at in e))
      where
        never : high ≡ 4098 → ⊥
        never e = omega arith

-- the level that was kept
level_back : (d : Bool) (l : Level) → level_with (high_at d l) ≡ l
unfolding level_with high_at
level_back false awake = refl
level_back true awake = refl
level_back d power_down = refl
level_back d self_refresh = refl
level_back d deep = refl

pub level_kept : (paired : Bool) (high : ℕ) (l : Level) → high ≡ high_at paired l → (level_with high ≡ l) × (high ≡ high_at paired (level_with high))
level_kept d high l e = let k = ap level_with e ∙ level_back d l in (k, e ∙ ap (high_at d) (sym k))

-- ---- many
-- the place of an entry among pieces of ten bytes
piece_of : (k i : ℕ) (bs : List ℕ) → i < k → get_or (first_chunks 10 k bs) i [] ≡ take 10 (drop (10 * i) bs)
piece_of zero i bs h = absurd (omega arith)
piece_of (suc k) zero bs h = refl
piece_of (suc k) (suc i) bs h =
    let e : 10 * suc i ≡ 10 + 10 * i = omega arith in
    piece_of k i (drop 10 bs) (omega arith) ∙ rw (e, ← drop-drop (10 * i) 10 bs)

pub piece_at : (n k i : ℕ) (bs : List ℕ) {all : List (List ℕ)} → all ≡ first_chunks 10 k bs → i < n → i < k → get_or (take n all) i [] ≡ take 10 (drop (10 * i) bs)
piece_at n k i bs {all} e h l = get_or-take n all i [] h ∙ rw e (piece_of k i bs l)

module _ (sleeps paired : Bool) where
  abbrev line : Standing → List ℕ → List ℕ
  line = line_at sleeps paired

  abbrev next : Standing → List ℕ → Standing
  next = next_at sleeps paired

  lines_more : (i : ℕ) (x : Standing) (bs : List ℕ)
      → lines_at sleeps paired i x bs ++ line (stands_at sleeps paired i x bs) (drop (10 * i) bs) ≡ lines_at sleeps paired (suc i) x bs
  unfolding lines_at stands_at
  lines_more zero x bs = sym (append-nil (line x bs))
  lines_more (suc i) x bs =
      let y = next x bs in
      let e : 10 * suc i ≡ 10 + 10 * i = omega arith in
      append_assoc (line x bs) (lines_at sleeps paired i y (drop 10 bs)) _
      ∙ ap (λ (l : List ℕ). line x bs ++ l) (rw (e, ← drop-drop (10 * i) 10 bs) (lines_more i y (drop 10 bs)))

  stands_more : (i : ℕ) (x : Standing) (bs : List ℕ) → next (stands_at sleeps paired i x bs) (drop (10 * i) bs) ≡ stands_at sleeps paired (suc i) x bs
  unfolding stands_at
  stands_more zero x bs = refl
  stands_more (suc i) x bs =
      let e : 10 * suc i ≡ 10 + 10 * i = omega arith in
      rw (e, ← drop-drop (10 * i) 10 bs) (stands_more i (next x bs) (drop 10 bs))

  module _ (i : ℕ) (s : Standing) (bs : List ℕ) (f : Front) (read : f ≡ front_in (take 10 (drop (10 * i) bs))) where
    there : f ≡ front_in (drop (10 * i) bs)
    there = read ∙ ap (λ (o : Option Front). unwrap_or o (front_as 0 0)) (front_take (drop (10 * i) bs) 10 0 (λ h. omega arith))

    line_there : (x : Standing) → line_on sleeps paired f.stamp f.pins x ≡ line x (drop (10 * i) bs)
    unfolding line_at
    line_there x = ap (λ (z : Front). line_on sleeps paired z.stamp z.pins x) there

    next_there : (x : Standing) → next_on sleeps paired f.pins x ≡ next x (drop (10 * i) bs)
    unfolding next_at
    next_there x = ap (λ (z : Front). next_on sleeps paired z.pins x) there

    pub lines_next : {x y : Next} {old mid part : List ℕ} {at r : ℕ} → Lined (lines_at sleeps paired i s bs) old mid at → standing_of x ≡ stands_at sleeps paired i s bs
        → Added sleeps paired x f.stamp f.pins (take (length mid - at) (drop at mid)) part y r
        → Lined (lines_at sleeps paired (i + 1) s bs) old (put_mid at (length mid - at) mid part) (at + r) × (standing_of y ≡ stands_at sleeps paired (i + 1) s bs)
    lines_next {x} {y} {old} {mid} {part} {at} {r} l c a =
        let line : Lined (line (stands_at sleeps paired i s bs) (drop (10 * i) bs)) (take (length mid - at) (drop at mid)) part r = rw (line_there (standing_of x), c) at a.line in (
          rw (add-one i, ← lines_more i s bs) (lined_more l line),
          a.stands ∙ next_there (standing_of x) ∙ rw (add-one i, ← stands_more i s bs, c),
        )

  pub lines_none : (x : Standing) (bs old : List ℕ) → Lined (lines_at sleeps paired 0 x bs) old old 0
  unfolding lines_at
  lines_none x bs old = lined_nothing old

  pub stands_none : (x : Standing) (bs : List ℕ) → x ≡ stands_at sleeps paired 0 x bs
  unfolding stands_at
  stands_none x bs = refl
