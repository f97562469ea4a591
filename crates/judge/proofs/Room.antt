-- No run without lines lacks room; nor does one with lines that has 64 bytes of room, and 64 more for each of its bytes.
use Prim.Native.Nat.{ℕ, zero, suc, ◌+◌, ◌*◌, ◌≤◌, ◌<◌}
use mathlib.Core.Path.{◌≡◌, refl, ap, sym, ◌∙◌}
use mathlib.Core.Bool.{Bool, true, false, cond, ◌||◌, or-true}
use mathlib.Core.List.{List, [], ◌∷◌}
use native.Mathlib.Omega.{arith}
use lib.Dec.{leb, eqb}
use lib.ListN.{length, drop, length-drop}
use borrow.Author.Tests.{le-leb}
use Rattle.rules.specs.Commands.{Command}
use Rattle.rules.specs.Whose.{Whose, part_of}
use Rattle.rules.specs.Past.{Past, bank_at}
use Rattle.rules.specs.Form.{Field, bytes_of, Head, card_of, entry_of}
use Rattle.rules.specs.File.{FileVerdict, Step, begun}
use Rattle.rules.specs.Entries.{Entry, whose_of, part_in, own_for}
use Rattle.rules.specs.Lent.{own_in, read_in, command_in}
use Rattle.rules.specs.Lines.{entry_line}
use Rattle.rules.proofs.Filtered.{judging_part}
use Rattle.rules.proofs.Taken.{counter_good}
use Rattle.rules.proofs.FileHeads.{HeadSays, is_whole, is_cut, is_bad_tag, is_bad_length, head_says}
use Rattle.bank.specs.Values.{lent_of}
use Rattle.bank.proofs.Shares.{is_low}
use Rattle.bank.proofs.Remembered.{bank_low}
use Rattle.bank.proofs.Changed.{entry_bank}
use Rattle.chunks.specs.declared.State.{State}
use Rattle.chunks.specs.declared.What.{What}
use Rattle.chunks.specs.declared.What.TheVariants.{More, Full}
use Rattle.chunks.specs.Took.{Move, On, Wait, End, Took, took_as, refused_by, behind_took, took_of}
use Rattle.chunks.specs.Heard.{field_line, head_line, line_of, Heard, heard_from}
use Rattle.chunks.proofs.Bytes.{Bytes, bytes_part, bytes_drop}
use Rattle.chunks.proofs.Short.{entry_short}
use Rattle.chunks.proofs.Turns.{line_if, heard_on, heard_waits, heard_ends, what_behind}
use Rattle.judge.proofs.Overflow.{stamp_small}
use Rattle.judge.proofs.Stands.{Stands, line_by}
use Rattle.judge.proofs.StandsEntry.{counter_is}
use Rattle.judge.proofs.StandsEnd.{Ended}
use Rattle.judge.proofs.Moves.{Moves, waits, stopped, goes, closes, moves}
use Rattle.judge.proofs.Agrees.{behind_took_lem}

-- ---- a line is short
module _ {st : State} {fs : List Field} {past : Past} {at : ℕ} (s : Stands st fs past at) where
  field_short : (f : Field) → Bytes (bytes_of f) → length (field_line st f) ≤ 64
  unfolding field_line command_in
  field_short f b = go (eqb f.tag 32)
    where
      e : Entry
      e = entry_of f

      counter : ℕ
      counter = (own_in (lent_of st.rec) e).counter

      counter_low : counter ≤ 7
      counter_low = rw (counter_is s e) (counter_good (own_for (card_of fs) past e))

      command : Command
      command = command_in (lent_of st.rec) e

      bank : bank_at command counter ≤ 7
      bank = bank_low command counter counter_low (unfold command_in read_in in entry_bank (lent_of st.rec).card _ e)

      whose : Whose
      whose = whose_of (lent_of st.rec).card e

      part : part_of whose < 2
      part = unfold part_in in is_low (lent_of st.rec).card _ (judging_part (lent_of st.rec).card e)

      go : (x : Bool) → length (cond x (entry_line e.stamp command whose counter) []) ≤ 64
      go true = omega (arith, entry_short e.stamp command whose counter (stamp_small f b) bank part)
      go false = omega arith

  pub line_short : (bs : List ℕ) → Bytes bs → length (line_of st bs) ≤ 64
  unfolding head_line
  line_short bs b = rw (line_by s (head_says (begun past) fs bs)) (by_head_lem (head_says (begun past) fs bs) b)
    where
      by_head_lem : {cs : List ℕ} {h : Head} → HeadSays (begun past) fs cs h → Bytes cs → length (head_line st h) ≤ 64
      by_head_lem (is_whole f rest form) b = field_short f (bytes_part (bytes_of f) rest b).0
      by_head_lem (is_cut c) b = omega arith
      by_head_lem (is_bad_tag m) b = omega arith
      by_head_lem (is_bad_length m g) b = omega arith

  line_if_short : (q : Bool) (bs : List ℕ) → Bytes bs → length (line_if q st bs) ≤ 64
  line_if_short true bs b = omega arith
  line_if_short false bs b = line_short bs b

-- ---- no run is cut short
abbrev what : Heard → What
what h = h.what

pub quiet_goes : (k room : ℕ) (st : State) (bs : List ℕ) → what (heard_from k true room st bs) ≡ Full → ⊥
quiet_goes zero room st bs = λ e. let f : More ≡ Full = unfold heard_from in e in cc
quiet_goes (suc k) room st bs = go (took_of st bs).how (took_of st bs).state refl (λ r next rest. quiet_goes k r next rest)
  where
    go : (m : Move) (next : State) → took_of st bs ≡ took_as m next → ((r : ℕ) (n : State) (rest : List ℕ) → what (heard_from k true r n rest) ≡ Full → ⊥) →
        what (heard_from (suc k) true room st bs) ≡ Full → ⊥
    go (On n) next e ih z = ih _ next (drop n bs) (sym (ap what (heard_on k true room st bs refl e) ∙ what_behind n [] _) ∙ z)
    go Wait next e ih z = cc (ap what (heard_waits k true room st bs refl e))
    go (End v) next e ih z = cc (ap what (heard_ends k true room st bs refl e))

roomy : (q : Bool) (room : ℕ) → 64 ≤ room → (q || leb 64 room) ≡ true
roomy q room h = rw (le-leb 64 room h, or-true q)

ended_goes : (k : ℕ) (q : Bool) (room : ℕ) {st : State} {v : FileVerdict} {at : ℕ} (bs : List ℕ) → Ended st v at → 64 ≤ room →
    what (heard_from k q room st bs) ≡ Full → ⊥
unfolding behind_took refused_by
ended_goes zero q room bs x h z = let f : More ≡ Full = unfold heard_from in z in cc
ended_goes (suc k) q room {st} [] x h z = cc (ap what (heard_waits k q room st [] (roomy q room h) (behind_took_lem x [])))
ended_goes (suc k) q room {st} (b ∷ bs) x h z = cc (ap what (heard_ends k q room st (b ∷ bs) (roomy q room h) (behind_took_lem x (b ∷ bs))))

pub roomy_goes : (k : ℕ) (q : Bool) (room : ℕ) {st : State} {fs : List Field} {past : Past} {at : ℕ} (bs : List ℕ) → Stands st fs past at → Bytes bs →
    64 + 64 * length bs ≤ room → what (heard_from k q room st bs) ≡ Full → ⊥
roomy_goes zero q room bs s b h = λ z. let f : More ≡ Full = unfold heard_from in z in cc
roomy_goes (suc k) q room {st} {fs} {past} {at} bs s b h = go (moves s bs b) refl (λ r' st' fs' past' at' cs s' c l. roomy_goes k q r' cs s' c l)
  where
    Later : Type 0
    Later = (room' : ℕ) (st' : State) (fs' : List Field) (past' : Past) (at' : ℕ) (cs : List ℕ) → Stands st' fs' past' at' → Bytes cs →
        64 + 64 * length cs ≤ room' → what (heard_from k q room' st' cs) ≡ Full → ⊥

    room_is : (q || leb 64 room) ≡ true
    room_is = roomy q room (omega arith)

    line : length (line_if q st bs) ≤ 64
    line = line_if_short s q bs b

    go : {t : Took} {x : Step} → Moves st past at bs t x → took_of st bs ≡ t → Later → what (heard_from (suc k) q room st bs) ≡ Full → ⊥
    go waits e ih z = cc (ap what (heard_waits k q room st bs room_is e))
    go (stopped v) e ih z = cc (ap what (heard_ends k q room st bs room_is e))
    go (goes n {next} {fs'} {past'} {at'} lo hi s' l) e ih z =
        ih _ next fs' past' at' (drop n bs) s' (bytes_drop n bs b) (rw length-drop (omega (arith, line)))
        (sym (ap what (heard_on k q room st bs room_is e) ∙ what_behind n (line_if q st bs) _) ∙ z)
    go (closes n {next} v at' lo hi d l) e ih z =
        ended_goes k q _ (drop n bs) d (omega (arith, line)) (sym (ap what (heard_on k q room st bs room_is e) ∙ what_behind n (line_if q st bs) _) ∙ z)
