-- The dues below number n; those of a beat in closed form, and the next one after a number.
use Prim.Native.Nat.{ℕ, zero, suc, ◌+◌, ◌*◌, ◌-◌, ◌/◌, ◌%◌, ◌≤◌, ◌<◌}
use mathlib.Core.Path.{◌≡◌, refl, ap, sym, ◌∙◌}
use mathlib.Core.Logic.{⊎_elim, ◌↔◌}
use mathlib.Core.Bool.{Bool, true, false, cond}
use native.Mathlib.Nat.{add-zero, suc-add, add-suc, div-add-mod', mod-lt, zero-div, div-mul-le_self, le-div_iff_mul-le, lt-div-mul-add, add-mul, add-mul-mod_self_right, add-sub_cancel}
use native.Mathlib.Omega.{arith}
use lib.Arith.{digits_div, digits_mod}
use lib.Dec.{leb, ltb, eqb}
use borrow.Author.Tests.{eq-eqb, ne_eqb}
use Rattle.rules.specs.Account.{Schedule, is_due, Beat, every, on_beat, fallen, next_after, steady}
use Rattle.rules.proofs.Tests.{lt_cases, le_cases, bit_le}
use Rattle.rules.proofs.Biased.{due}

unfoldable pub dues : Schedule → ℕ → ℕ
dues s zero = 0
dues s (suc n) = dues s n + due s n

-- ---- the positive multiples of I
suc_div : (I t : ℕ) → 0 < I → suc t / I ≡ t / I + cond (is_due I (suc t)) 1 0
unfolding is_due
suc_div I t h = ⊎_elim inside last (lt_cases (suc (t % I)) I)
  where
    whole : t / I * I + t % I ≡ t
    whole = div-add-mod' t I

    small : t % I < I
    small = mod-lt t h

    inside : (suc (t % I) < I) × (ltb (suc (t % I)) I ≡ true) → suc t / I ≡ t / I + cond (eqb (suc t % I) 0) 1 0
    inside p =
        let e : suc t ≡ t / I * I + suc (t % I) = omega (arith, whole) in
        let d : suc t / I ≡ t / I = ap (λ (x : ℕ). x / I) e ∙ digits_div (t / I) p.0 in
        let m : suc t % I ≡ suc (t % I) = ap (λ (x : ℕ). x % I) e ∙ digits_mod (t / I) p.0 in
        rw (d, ne_eqb (suc t % I) 0 (omega arith)) (omega arith)

    last : (I ≤ suc (t % I)) × (ltb (suc (t % I)) I ≡ false) → suc t / I ≡ t / I + cond (eqb (suc t % I) 0) 1 0
    last p =
        let e : suc t ≡ suc (t / I) * I + 0 = omega (arith, whole, small) in
        let d : suc t / I ≡ suc (t / I) = ap (λ (x : ℕ). x / I) e ∙ digits_div (suc (t / I)) h in
        let m : suc t % I ≡ 0 = ap (λ (x : ℕ). x % I) e ∙ digits_mod (suc (t / I)) h in
        rw (d, eq-eqb (suc t % I) 0 m) (omega arith)

due_more : (I k : ℕ) (y : ℕ) → 0 < y → is_due I (y + k * I) ≡ is_due I y
unfolding is_due
due_more I k zero h = absurd (omega arith)
due_more I k (suc y) h = rw (suc-add) (ap (λ (x : ℕ). eqb x 0) (ap (λ (x : ℕ). x % I) (sym (suc-add y (k * I))) ∙ add-mul-mod_self_right (suc y) k I))

-- what the account's closed forms ask of the way in which cycles add dues: how many fell due up to a cycle, and the first cycle by which n did
pub record Counts (due : ℕ → ℕ) : Type 0 where
  pub up_to : ℕ → ℕ
  pub reach : ℕ → ℕ
  pub next : (t : ℕ) → up_to (suc t) ≡ up_to t + due (suc t)
  pub reached : (n t : ℕ) → (reach n ≤ t) ↔ (n ≤ up_to t)

-- ---- a beat
module _ (b : Beat) (h : 0 < b.span) where
  abbrev I : ℕ
  I = b.span

  abbrev u : ℕ
  u = b.next

  pub fallen_suc : (t : ℕ) → fallen b (suc t) ≡ fallen b t + due (steady b) (suc t)
  unfolding fallen on_beat due
  fallen_suc t = ⊎_elim
      (λ (p : (suc t + I ≤ u) × (leb (suc t + I) u ≡ true)).
      let a : suc t + I - u ≡ 0 = omega arith in
      let c : t + I - u ≡ 0 = omega arith in
      rw (a, c, zero-div) (unfold is_due in refl))
      (λ (p : (u < suc t + I) × (leb (suc t + I) u ≡ false)).
      let a : suc t + I - u ≡ suc (t + I - u) = omega arith in
      rw a (suc_div I (t + I - u) h))
      (le_cases (suc t + I) u)

  unfoldable pub reach_by : ℕ → ℕ
  reach_by zero = 0
  reach_by (suc n) = suc n * I + u - I

  pub fallen_reached : (n t : ℕ) → (reach_by n ≤ t) ↔ (n ≤ fallen b t)
  unfolding fallen reach_by
  fallen_reached zero t = (λ l. omega arith, λ l. omega arith)
  fallen_reached (suc n) t = (
    λ l. (le-div_iff_mul-le h).1 (omega arith),
    λ l. let m : suc n * I ≤ t + I - u = (le-div_iff_mul-le h).0 l in omega arith,
  )

  unfoldable pub beats : Counts (due (steady b))
  beats = record { up_to = fallen b; reach = reach_by; next = fallen_suc; reached = fallen_reached }

  -- the next due after number n, and k more
  pub reach_is : (n k : ℕ) → beats.reach (suc (fallen b n + k)) ≡ next_after b n + k * I
  unfolding beats reach_by next_after
  reach_is n k = let z : (fallen b n + k) * I ≡ fallen b n * I + k * I = add-mul (fallen b n) k I in omega arith

  -- ---- the next due after a number
  pub next_later : (n : ℕ) → n < next_after b n
  unfolding next_after fallen
  next_later n = omega (arith, lt-div-mul-add {a = n + I - u} h)

  -- it is on the beat, and none before it does
  pub next_on_beat : (n : ℕ) → on_beat b (next_after b n) ≡ true
  unfolding on_beat next_after
  next_on_beat n =
      let e : u + fallen b n * I + I - u ≡ I + fallen b n * I = omega arith in
      rw e (due_more I (fallen b n) I h ∙ own I h)
    where
      own : (i : ℕ) → 0 < i → is_due i i ≡ true
      own zero l = absurd (omega arith)
      own (suc i) l = unfold is_due in eq-eqb (suc i % suc i) 0 (self (suc i))
        where
          self : (i : ℕ) → i % i ≡ 0
          self i = let z : 0 + 1 * i ≡ i = omega arith in ap (λ (x : ℕ). x % i) (sym z) ∙ add-mul-mod_self_right 0 1 i ∙ zero_rest i
            where
              zero_rest : (i : ℕ) → 0 % i ≡ 0
              zero_rest i = native.Mathlib.Nat.zero-mod i

  fallen_on : (n j : ℕ) → fallen b n ≤ fallen b (n + j)
  fallen_on n zero = rw add-zero (omega arith)
  fallen_on n (suc j) = rw add-suc (omega (arith, fallen_on n j, fallen_suc (n + j)))

  pub fallen_up : (n m : ℕ) → n ≤ m → fallen b n ≤ fallen b m
  fallen_up n m h = let z : n + (m - n) ≡ m = omega arith in rw z at (fallen_on n (m - n))

  -- where more fell due, the next due after number n and k more are reached
  pub due_by : (n k m : ℕ) → fallen b n + k < fallen b m → next_after b n + k * I ≤ m
  unfolding beats
  due_by n k m h = rw (reach_is n k) at ((fallen_reached (suc (fallen b n + k)) m).1 h)

  pub none_between : (n m : ℕ) → n < m → m < next_after b n → on_beat b m ≡ false
  none_between n zero l g = absurd (omega arith)
  none_between n (suc m) l g = go (on_beat b (suc m)) refl
    where
      go : (x : Bool) → on_beat b (suc m) ≡ x → on_beat b (suc m) ≡ false
      go false e = e
      go true e =
          let one : due (steady b) (suc m) ≡ 1 = unfold due in rw e in
          absurd (clash (due_by n 0 (suc m) (omega (arith, fallen_up n m (omega arith), fallen_suc m, one))))
        where
          clash : next_after b n + 0 * I ≤ suc m → ⊥
          clash r = omega arith

-- ---- the dues of a stretch of numbers in which a schedule keeps a beat
div_add : (x y k : ℕ) → 0 < k → x / k + y / k ≤ (x + y) / k
div_add x y k h = (le-div_iff_mul-le h).1 (rw add-mul (omega (arith, div-mul-le_self x k, div-mul-le_self y k)))

dues_suc : (s : Schedule) (n : ℕ) → dues s (suc n) ≡ dues s n + due s n
unfolding dues
dues_suc s n = refl

module _ (s : Schedule) (b : Beat) (h : 0 < b.span) where
  dues_on : (a L : ℕ) → ((m : ℕ) → a < m → m < suc (a + L) → s.due m ≡ on_beat b m) → dues s (suc (a + L)) + fallen b a ≡ dues s (suc a) + fallen b (a + L)
  dues_on a zero k = rw add-zero (omega arith)
  dues_on a (suc L) k =
      let e : due s (suc (a + L)) ≡ due (steady b) (suc (a + L)) = unfold due in rw (k (suc (a + L)) (omega arith) (omega arith)) in
      let ih = dues_on a L (λ m l g. k m l (omega arith)) in
      rw add-suc (omega (arith, e, ih, fallen_suc b h (a + L), dues_suc s (suc (a + L))))

  -- one that does not begin at 0, and has its next due within an interval
  pub dues_later : (a L : ℕ) → b.next ≤ a + b.span → ((m : ℕ) → a < m → m < suc (a + L) → s.due m ≡ on_beat b m) →
      L / b.span + dues s (suc a) ≤ dues s (suc (a + L))
  dues_later a L n k = omega (arith, dues_on a L k, more)
    where
      more : fallen b a + L / b.span ≤ fallen b (a + L)
      more = unfold fallen in
          let z : a + L + b.span - b.next ≡ a + b.span - b.next + L = omega arith in
          rw z (div_add (a + b.span - b.next) L b.span h)

-- one that does, with the positive multiples of I
pub dues_first : (s : Schedule) (I L : ℕ) → 0 < I → ((m : ℕ) → m < L → s.due m ≡ on_beat (every I) m) → L / I ≤ dues s L + 1
dues_first s I zero h k = rw zero-div (omega arith)
dues_first s I (suc l) h k =
    omega (arith, from_0, at l, at 0, zero-div I, suc_div I l h, bit_le (is_due I (suc l)))
  where
    h' : 0 < (every I).span
    h' = unfold every in h

    z : 0 + l ≡ l
    z = omega arith

    from_0 : dues s (suc l) + fallen (every I) 0 ≡ dues s 1 + fallen (every I) l
    from_0 = rw z at (dues_on s (every I) h' 0 l (λ m p q. k m (omega arith)))

    at : (t : ℕ) → fallen (every I) t ≡ t / I
    at t = unfold fallen every in rw (add-sub_cancel t I)
