-- What comes out of a state and all the bytes that come: the verdict and, where room never lacks, the text. Both go by the first field.
use Prim.Native.Nat.{ℕ, zero, suc, ◌<◌}
use mathlib.Core.Path.{◌≡◌, refl, ap, ◌∙◌}
use mathlib.Core.Bool.{true}
use mathlib.Core.List.{List, [], ◌++◌}
use native.Mathlib.Nat.{le_refl}
use native.Mathlib.Omega.{arith}
use lib.ListN.{length, drop}
use Rattle.chunks.specs.declared.State.{State}
use Rattle.chunks.specs.declared.Verdict.{Verdict}
use Rattle.chunks.specs.Took.{Move, On, Wait, End, took_of}
use Rattle.chunks.specs.Heard.{line_of, Heard, behind, ended_at, over_at, finished_of}
use Rattle.chunks.proofs.Walks.{shorter, stops_more, stops_over, takes, walk, only}

-- the lines of the entries that are taken
unfoldable pub line_then : (line : List ℕ) → (ℕ → List ℕ) → Move → List ℕ
line_then line next (On n) = line ++ next n
line_then line next Wait = []
line_then line next (End v) = []

unfoldable pub text_from : ℕ → State → List ℕ → List ℕ
text_from zero st bs = []
text_from (suc k) st bs = line_then (line_of st bs) (λ n. text_from k (took_of st bs).state (drop n bs)) (took_of st bs).how

unfoldable pub text_of : State → List ℕ → List ℕ
text_of st bs = text_from (suc (length bs)) st bs

-- ---- the count is enough
same_next : (line : List ℕ) (f g : ℕ → List ℕ) (m : Move) → ((n : ℕ) → m ≡ On n → f n ≡ g n) → line_then line f m ≡ line_then line g m
unfolding line_then
same_next line f g (On n) h = ap (λ (t : List ℕ). line ++ t) (h n refl)
same_next line f g Wait h = refl
same_next line f g (End v) h = refl

text_enough : (j k : ℕ) (st : State) (bs : List ℕ) → length bs < j → length bs < k → text_from j st bs ≡ text_from k st bs
unfolding text_from
text_enough zero k st bs h l = absurd (omega arith)
text_enough (suc j) zero st bs h l = absurd (omega arith)
text_enough (suc j) (suc k) st bs h l =
    same_next (line_of st bs) _ _ (took_of st bs).how
    (λ n e. text_enough j k (took_of st bs).state (drop n bs) (shorter j st bs n e h) (shorter k st bs n e l))

-- ---- the first field
module _ (st : State) (bs : List ℕ) where
  by_first : (m : Move) → (took_of st bs).how ≡ m → text_of st bs ≡ line_then (line_of st bs) (λ n. text_from (length bs) (took_of st bs).state (drop n bs)) m
  unfolding text_of text_from
  by_first m e = rw e

  pub text_on : (n : ℕ) → (took_of st bs).how ≡ On n → text_of st bs ≡ line_of st bs ++ text_of (took_of st bs).state (drop n bs)
  unfolding line_then text_of
  text_on n e =
      by_first (On n) e
      ∙ ap (λ (t : List ℕ). line_of st bs ++ t)
      (text_enough (length bs) (suc (length (drop n bs))) (took_of st bs).state (drop n bs) (shorter (length bs) st bs n e (le_refl _)) (le_refl _))

  pub text_wait : (took_of st bs).how ≡ Wait → text_of st bs ≡ []
  unfolding line_then
  text_wait e = by_first Wait e

  pub text_end : (v : Verdict) → (took_of st bs).how ≡ End v → text_of st bs ≡ []
  unfolding line_then
  text_end v e = by_first (End v) e

  pub finished_on : (n : ℕ) → (took_of st bs).how ≡ On n → finished_of st bs ≡ finished_of (took_of st bs).state (drop n bs)
  unfolding finished_of behind
  finished_on n e = ap (λ (h : Heard). over_at h.state h.what) (only (takes {room = 0} refl e (walk true 0 (took_of st bs).state (drop n bs))))

  pub finished_wait : (took_of st bs).how ≡ Wait → finished_of st bs ≡ ended_at st
  unfolding finished_of over_at
  finished_wait e = ap (λ (h : Heard). over_at h.state h.what) (only (stops_more {room = 0} refl e))

  pub finished_end : (v : Verdict) → (took_of st bs).how ≡ End v → finished_of st bs ≡ v
  unfolding finished_of over_at
  finished_end v e = ap (λ (h : Heard). over_at h.state h.what) (only (stops_over {room = 0} refl e))
