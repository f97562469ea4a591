-- What some bytes decided stays so when more come behind them.
use Prim.Native.Nat.{ℕ}
use mathlib.Core.Path.{◌≡◌, refl}
use mathlib.Core.Bool.{Bool, true, false, cond}
use mathlib.Core.List.{List, [], ◌∷◌, ◌++◌, append_assoc}
use lib.Dec.{eqb}
use Rattle.rules.specs.Form.{Field, bytes_of, Head, head_of}
use Rattle.rules.proofs.FileHeads.{HeadSays, is_whole, is_cut, is_bad_tag, is_bad_length, head_says, head_only}
use Rattle.chunks.specs.declared.State.{State}
use Rattle.chunks.specs.Took.{On, Wait, head_took, behind_took, read_in, head_at, took_of}
use Rattle.chunks.specs.Heard.{head_line, line_of}
use Rattle.chunks.proofs.Advances.{behind_on}

-- ---- the tests of a head
module _ (st : State) (b : Bool) (fs : List Field) where
  head_stays : {xs : List ℕ} {h : Head} → HeadSays b fs xs h → ((head_took st h).how ≡ Wait → ⊥) → (ys : List ℕ) →
      (head_took st (head_of b fs (xs ++ ys)) ≡ head_took st h) × (head_line st (head_of b fs (xs ++ ys)) ≡ head_line st h)
  unfolding head_took head_line
  head_stays (is_whole f rest r) m ys = rw (append_assoc (bytes_of f) rest ys, head_only b fs (is_whole f (rest ++ ys) r)) (refl, refl)
  head_stays (is_cut c) m ys = absurd (m refl)
  head_stays (is_bad_tag {bs = bs} e) m ys = rw (head_only b fs (is_bad_tag {bs = bs ++ ys} e)) (refl, refl)
  head_stays (is_bad_length {bs = bs} e g) m ys = rw (head_only b fs (is_bad_length {bs = bs ++ ys} e g)) (refl, refl)

-- ---- any bytes
module _ (st : State) (xs : List ℕ) where
  says : HeadSays st.rec.last.seen (read_in st) xs (head_at st xs)
  unfolding head_at
  says = head_says st.rec.last.seen (read_in st) xs

  head_stays_at : ((head_took st (head_at st xs)).how ≡ Wait → ⊥) → (ys : List ℕ) →
      (head_took st (head_at st (xs ++ ys)) ≡ head_took st (head_at st xs)) × (head_line st (head_at st (xs ++ ys)) ≡ head_line st (head_at st xs))
  unfolding head_at
  head_stays_at m ys = head_stays st st.rec.last.seen (read_in st) (unfold head_at in says) m ys

  behind_stays : (cs : List ℕ) → ((behind_took st cs).how ≡ Wait → ⊥) → (ys : List ℕ) → behind_took st (cs ++ ys) ≡ behind_took st cs
  unfolding behind_took
  behind_stays [] m ys = absurd (m refl)
  behind_stays (c ∷ cs) m ys = refl

  -- what was decided stays so
  pub took_stays : ((took_of st xs).how ≡ Wait → ⊥) → (ys : List ℕ) → took_of st (xs ++ ys) ≡ took_of st xs
  unfolding took_of
  took_stays m ys = go (eqb st.tag 33) m
    where
      go : (b : Bool) → ((cond b (behind_took st xs) (head_took st (head_at st xs))).how ≡ Wait → ⊥) →
          cond b (behind_took st (xs ++ ys)) (head_took st (head_at st (xs ++ ys)))
          ≡ cond b (behind_took st xs) (head_took st (head_at st xs))
      go true m = behind_stays xs m ys
      go false m = (head_stays_at m ys).0

  taken_head : (n : ℕ) → (took_of st xs).how ≡ On n → (head_took st (head_at st xs)).how ≡ On n
  unfolding took_of
  taken_head n e = go (eqb st.tag 33) e
    where
      go : (b : Bool) → (cond b (behind_took st xs) (head_took st (head_at st xs))).how ≡ On n → (head_took st (head_at st xs)).how ≡ On n
      go true e = behind_on st xs n e
      go false e = e

  -- and so does the line of a field that was taken
  pub line_stays : (n : ℕ) → (took_of st xs).how ≡ On n → (ys : List ℕ) → line_of st (xs ++ ys) ≡ line_of st xs
  unfolding line_of
  line_stays n e ys = (head_stays_at (λ w. cc (taken_head n e)) ys).1
