-- A turn block by block: what is left to do from block j on, put behind what was done, is the whole turn. Assumes nothing.
use mathlib.Core.Path.{◌≡◌, refl, sym, ap, ◌∙◌}
use mathlib.Core.Bool.{false, ◌&&◌}
use mathlib.Core.List.{List, [], ◌++◌, append_assoc}
use lib.Dec.{ltb}
use borrow.Author.Tests.{ltb-false}
use Prim.Native.Nat.{ℕ, suc, ◌+◌, ◌-◌, ◌*◌, ◌%◌, ◌≤◌, ◌<◌}
use native.Mathlib.Nat.{zero-add, add-zero, sub-zero}
use native.Mathlib.Omega.{arith}
use lib.ListN.{length, take, drop, length-append, length-take, length-drop, take-append-drop}
use lib.Seq.{take_all, take_at, drop_at, drop-drop, length-take-le}
use Rattle.octets.specs.Octets.{Bytes, over}
use Rattle.octets.proofs.Blocks.{take_bytes, drop_bytes}
use Rattle.octets_block.specs.Blocks.{block_at}
use Rattle.octets_block.proofs.Laws.{block-at}
use Rattle.image_layout.specs.Layout.{head_of_lem}
use Rattle.image_layout.specs.declared.Head.{Head}
use Rattle.image_progress.specs.declared.Progress.{Progress}
use Rattle.image_reasons.specs.declared.Reason.{Reason}
use Rattle.image_reasons.specs.declared.Verdict.{Verdict}
use Rattle.image_reasons.specs.declared.Verdict.TheVariants.{Accepted, Refused}
use Rattle.image_spec.specs.Judge.{taken, BlockReader}
use Rattle.image_reader_tally.specs.Tally.{blocks_read_with}
use Rattle.image_reader_tally.specs.Model.{following, stepped}
use Rattle.image_reader_tally.proofs.Laws.{stepped_plain}
use Rattle.image_reader_turn.specs.Turn.{Reading, later, onward, read_blocks, cut, blocks_read}
use Rattle.image_reader_turn.specs.Model.{part_after}
use Rattle.image_reader_tally.specs.declared.Stop.{Stop}
use Rattle.image_reader_tally.specs.declared.Stop.TheVariants.{End, Asked, Lent, Room, At}
use Rattle.image_reader_tally.specs.declared.BlocksRead.{BlocksRead}

-- a place counted from j blocks earlier
later_by : ℕ → Stop → Stop
later_by j (At place reason) = At (j + place) reason
later_by j End = End
later_by j Asked = Asked
later_by j Lent = Lent
later_by j Room = Room

later_one : (j : ℕ) (x : Stop) → later_by j (later x) ≡ later_by (j + 1) x
unfolding later_by
later_one j (At place reason) = ap (λ (n : ℕ). At n reason) (omega arith)
later_one j End = refl
later_one j Asked = refl
later_one j Lent = refl
later_one j Room = refl

later_none : (x : Stop) → later_by 0 x ≡ x
unfolding later_by
later_none (At place reason) = ap (λ (n : ℕ). At n reason) (zero-add place)
later_none End = refl
later_none Asked = refl
later_none Lent = refl
later_none Room = refl

-- a reading of the rest, after j blocks with so many bytes that left this output
pub finish : (j bytes : ℕ) → List ℕ → Reading → BlocksRead × List ℕ
finish j bytes out t = (
  blocks_read_with t.progress (j + t.accepted) (bytes + t.bytes) (later_by j t.stop),
  take (j * 480) out ++ (t.out ++ drop (j * 480 + length t.out) out),
)

pub finish_start : (out : List ℕ) (t : Reading) → finish 0 0 out t ≡ (blocks_read t, over t.out out)
unfolding finish
finish_start out t = rw (zero-add t.accepted, zero-add t.bytes, later_none t.stop, zero-add (length t.out))

module _ (j bytes : ℕ) (out : List ℕ) (s : Progress) where
  all_back : take (j * 480) out ++ drop (j * 480 + 0) out ≡ out
  all_back = ap (λ (n : ℕ). take (j * 480) out ++ drop n out) (add-zero (j * 480)) ∙ take-append-drop (j * 480) out

  finish_none : (x y : Stop) → later_by j x ≡ y → finish j bytes out (record { progress = s; accepted = 0; bytes = 0; stop = x; out = [] }) ≡ (blocks_read_with s j bytes y, out)
  unfolding finish
  finish_none x y e = rw (add-zero j, add-zero bytes, e) (ap (λ (o : List ℕ). (blocks_read_with s j bytes y, o)) all_back)

  finish_end : finish j bytes out (record { progress = s; accepted = 0; bytes = 0; stop = End; out = [] }) ≡ (blocks_read_with s j bytes End, out)
  unfolding later_by
  finish_end = finish_none End End refl

  finish_refused : (reason : Reason) → finish j bytes out (record { progress = s; accepted = 0; bytes = 0; stop = At 0 reason; out = [] }) ≡ (blocks_read_with s j bytes (At j reason), out)
  unfolding later_by
  finish_refused reason = finish_none (At 0 reason) (At j reason) (ap (λ (n : ℕ). At n reason) (add-zero j))

  -- the 480 bytes of an accepted block go behind those of the blocks before it
  module _ (len : ℕ) (plain : List ℕ) (t : Reading) (size : length plain ≡ 480) (room : j * 480 + 480 ≤ length out) (new : List ℕ) (en : new ≡ take (j * 480) out ++ (plain ++ drop (j * 480 + 480) out)) where
    out_accepted : take (j * 480) out ++ ((plain ++ t.out) ++ drop (j * 480 + length (plain ++ t.out)) out)
        ≡ take ((j + 1) * 480) new ++ (t.out ++ drop ((j + 1) * 480 + length t.out) new)
    out_accepted =
        let a = j * 480 in
        let x = take a out ++ plain in
        let y = drop (a + 480) out in
        let la : length x ≡ a + 480 = length-append (take a out) plain ∙ omega (arith, length-take-le a out (omega arith)) in
        let w : new ≡ x ++ y = en ∙ sym (append_assoc (take a out) plain y) in
        let b : (j + 1) * 480 ≡ a + 480 = omega arith in
        let n : a + length (plain ++ t.out) ≡ a + 480 + length t.out = omega (arith, length-append plain t.out) in
        let front : take (a + 480) new ≡ x = ap (take (a + 480)) w ∙ take_at x y (a + 480) la in
        let back : drop (a + 480 + length t.out) new ≡ drop (a + 480 + length t.out) out =
        sym (drop-drop (length t.out) (a + 480) new) ∙ ap (λ (s : List ℕ). drop (length t.out) (drop (a + 480) s)) w
        ∙ ap (drop (length t.out)) (drop_at x y (a + 480) la) ∙ drop-drop (length t.out) (a + 480) out in
        rw (b, n, front, back)
        (ap (λ (x : List ℕ). take a out ++ x) (append_assoc plain t.out (drop (a + 480 + length t.out) out)) ∙ sym (append_assoc (take a out) plain (t.out ++ drop (a + 480 + length t.out) out)))

    finish_accepted : finish j bytes out (onward Accepted s len plain t) ≡ finish (j + 1) (bytes + len) new t
    unfolding finish
    finish_accepted =
        let e : j + suc t.accepted ≡ j + 1 + t.accepted = omega arith in
        let f : bytes + (len + t.bytes) ≡ bytes + len + t.bytes = omega arith in
        rw (e, f, later_one j t.stop) (ap (λ (o : List ℕ). (blocks_read_with t.progress (j + 1 + t.accepted) (bytes + len + t.bytes) (later_by (j + 1) t.stop), o)) out_accepted)

-- ---- one block more

-- the length that a header says fits two bytes
len_fits : (b : List ℕ) → Bytes b → (head_of_lem b).len ≤ 65535
unfolding head_of_lem
len_fits b h = omega (arith, h 12, h 13)

part_is : (bl : List ℕ) (j : ℕ) → take (j * 512 + 512 - j * 512) (drop (j * 512) bl) ≡ take 512 (drop (j * 512) bl)
part_is bl j =
    let e : j * 512 + 512 - j * 512 ≡ 512 = omega arith in
    ap (λ (n : ℕ). take n (drop (j * 512) bl)) e

module _ (d : BlockReader) (bl : List ℕ) (s : Progress) (j n bytes : ℕ) (out : List ℕ) where
  left : ℕ → Progress → Reading
  left i p = read_blocks d p (cut (n - i) (drop (i * 512) bl))

  pub left_end : n ≤ j → (blocks_read_with s j bytes End, out) ≡ finish j bytes out (read_blocks d s (cut (n - j) (drop (j * 512) bl)))
  unfolding read_blocks cut
  left_end h =
      let e : n - j ≡ 0 = omega arith in
      rw e (sym (finish_end j bytes out s))

  module _ (h : j < n) (b : List ℕ) (eb : b ≡ take 512 (drop (j * 512) bl)) (v : Verdict) (ev : v ≡ d.verdict s b) where
    left_step : left j s ≡ onward v s (head_of_lem b).len (d.plain b) (left (j + 1) (taken s b))
    unfolding left read_blocks cut
    left_step =
        let e : n - j ≡ suc (n - (j + 1)) = omega arith in
        let i : (j + 1) * 512 ≡ j * 512 + 512 = omega arith in
        let q : drop ((j + 1) * 512) bl ≡ drop 512 (drop (j * 512) bl) = ap (λ (m : ℕ). drop m bl) i ∙ sym (drop-drop 512 (j * 512) bl) in
        rw (e, q, ev, eb)

    pub step_refused : (reason : Reason) → v ≡ Refused reason → (blocks_read_with s j bytes (At j reason), out) ≡ finish j bytes out (read_blocks d s (cut (n - j) (drop (j * 512) bl)))
    unfolding left
    step_refused reason e =
        let q : left j s ≡ record { progress = s; accepted = 0; bytes = 0; stop = At 0 reason; out = [] } =
        left_step ∙ ap (λ (x : Verdict). onward x s (head_of_lem b).len (d.plain b) (left (j + 1) (taken s b))) e in
        sym (ap (finish j bytes out) q ∙ finish_refused j bytes out s reason)

    pub step_accepted : v ≡ Accepted → length (d.plain b) ≡ 480 → j * 480 + 480 ≤ length out → s.next < 65535
        → (new : List ℕ) → new ≡ take (j * 480) out ++ (d.plain b ++ drop (j * 480 + 480) out)
        → finish (j + 1) (bytes + (head_of_lem b).len) new (read_blocks d (following s (head_of_lem b) (drop 496 b)) (cut (n - (j + 1)) (drop ((j + 1) * 512) bl))) ≡ finish j bytes out (read_blocks d s (cut (n - j) (drop (j * 512) bl)))
    unfolding left
    step_accepted e size room small new eo =
        let k : (s.next + 1) % 4294967296 ≡ s.next + 1 = omega arith in
        let t = left (j + 1) (taken s b) in
        rw k
        (sym (ap (finish j bytes out) (left_step ∙ ap (λ (x : Verdict). onward x s (head_of_lem b).len (d.plain b) t) e)
        ∙ finish_accepted j bytes out s (head_of_lem b).len (d.plain b) t size room new eo))

-- what a part of an output that was lent leaves of the whole
pub part_put : (out : List ℕ) (at : ℕ) (x plain o : List ℕ) → x ≡ plain → o ≡ take at out ++ (x ++ drop (at + 480 - at) (drop at out)) → o ≡ take at out ++ (plain ++ drop (at + 480) out)
part_put out at x plain o e eo =
    let n : at + 480 - at ≡ 480 = omega arith in
    eo ∙ rw (e, n, drop-drop 480 at out)

-- n bytes of a list from a place on, as a part of a slice is lent
abbrev pub part : List ℕ → ℕ → ℕ → List ℕ
part s at n = take (at + n - at) (drop at s)

-- a part that could be lent is within the whole
part_room : (s : List ℕ) (at n : ℕ) → length (part s at n) ≡ at + n - at → 0 < n → at + n ≤ length s
part_room s at n e h = omega (arith, length-take (at + n - at) (drop at s), length-drop at s)

pub part_keeps : (out : List ℕ) (at : ℕ) (plain o : List ℕ) → at + 480 ≤ length out → length plain ≡ 480 → o ≡ take at out ++ (plain ++ drop (at + 480) out) → length o ≡ length out
part_keeps out at plain o h size e =
    ap length e ∙ length-append (take at out) (plain ++ drop (at + 480) out)
    ∙ omega (arith, length-take-le at out (omega arith), length-append plain (drop (at + 480) out), length-drop (at + 480) out)

-- what the code reads of a block is the block's own
pub check_is : (b check : List ℕ) → length b ≡ 512 → check ≡ block_at b 496 → check ≡ drop 496 b
check_is b check size e = e ∙ block-at b 496 (omega arith) ∙ take_all 16 (drop 496 b) (omega (arith, length-drop 496 b))

pub stepped_by : (t : BlocksRead) (v w : Verdict) (h g : Head) (x y : List ℕ) → v ≡ w → h ≡ g → x ≡ y → stepped v t h x ≡ stepped w t g y
stepped_by t v w h g x y ev eh ex = rw (ev, eh, ex)

-- ---- a turn on its way

-- what it is to end with: the blocks that are left, unless one has stopped it
ahead_by : Stop → BlockReader → (bl : List ℕ) (n : ℕ) → BlocksRead → List ℕ → BlocksRead × List ℕ
ahead_by End d bl n t out = finish t.accepted t.bytes out (read_blocks d t.progress (cut (n - t.accepted) (drop (t.accepted * 512) bl)))
ahead_by Asked d bl n t out = (t, out)
ahead_by Lent d bl n t out = (t, out)
ahead_by Room d bl n t out = (t, out)
ahead_by (At place reason) d bl n t out = (t, out)

pub ahead : BlockReader → (bl : List ℕ) (n : ℕ) → BlocksRead → List ℕ → BlocksRead × List ℕ
ahead d bl n t out = ahead_by t.stop d bl n t out

pub ahead_start : (d : BlockReader) (bl : List ℕ) (n : ℕ) (s : Progress) (out : List ℕ) (t : BlocksRead) → t ≡ blocks_read_with s 0 0 End
    → ahead d bl n t out ≡ finish 0 0 out (read_blocks d s (cut n bl))
unfolding ahead ahead_by
ahead_start d bl n s out t e = rw e (ap (λ (k : ℕ). finish 0 0 out (read_blocks d s (cut k bl))) (sub-zero n))

pub ahead_end : (d : BlockReader) (bl : List ℕ) (n : ℕ) (t : BlocksRead) (out : List ℕ) → t.stop ≡ End → n ≤ t.accepted → (t, out) ≡ ahead d bl n t out
unfolding ahead ahead_by
ahead_end d bl n t out e h =
    ap (λ (x : Stop). (blocks_read_with t.progress t.accepted t.bytes x, out)) e ∙ rw e (left_end d bl t.progress t.accepted n t.bytes out h)

-- one that something has stopped is done
pub ahead_stopped : (d : BlockReader) (bl : List ℕ) (n : ℕ) (t : BlocksRead) (out : List ℕ) → (t.stop ≡ End → ⊥) → (t, out) ≡ ahead d bl n t out
unfolding ahead ahead_by
ahead_stopped d bl n t out h = go t.stop h
  where
    go : (x : Stop) → (x ≡ End → ⊥) → (t, out) ≡ ahead_by x d bl n t out
    go End h = absurd (h refl)
    go Asked h = refl
    go Lent h = refl
    go Room h = refl
    go (At place reason) h = refl

-- what a turn that goes on has at hand: the next block is lent, its part of the output is there, and its sums are small
pub record Ready (d : BlockReader) (bl : List ℕ) (n : ℕ) (t : BlocksRead) (out : List ℕ) : Type 0 where
  pub going : t.stop ≡ End
  pub here : t.accepted < n
  pub most : n ≤ 128
  pub within : t.bytes ≤ t.accepted * 65535
  pub there : t.accepted * 512 + 512 ≤ length bl
  pub room : t.accepted * 480 + 480 ≤ length out
  pub bytes : Bytes bl
  pub sized : (b : List ℕ) → length b ≡ 512 → length (d.plain b) ≡ 480
  pub small : (b : List ℕ) → d.verdict t.progress b ≡ Accepted → t.progress.next < 65535

-- one block more: any block of those lent, opened at any place of the output; that they are the turn's own is asked only for the last
module _ (d : BlockReader) (bl : List ℕ) (n : ℕ) (t : BlocksRead) (out : List ℕ) (r : Ready d bl n t out)
    (from : ℕ) (lent : length (part bl from 512) ≡ from + 512 - from) (at : ℕ) (given : length (part out at 480) ≡ at + 480 - at)
    (b : List ℕ) (eb : b ≡ part bl from 512) (new : BlocksRead) (en : new ≡ stepped (d.verdict t.progress b) t (head_of_lem b) (drop 496 b))
    (x y o : List ℕ) (ex : x ≡ part out at 480) (ey : y ≡ part_after (d.verdict t.progress b) (d.plain b) x)
    (eo : o ≡ take at out ++ (y ++ drop (at + 480 - at) (drop at out))) where
  size : length b ≡ 512
  size = ap length eb ∙ lent ∙ omega arith

  bytes : Bytes b
  bytes = rw eb (take_bytes (from + 512 - from) (drop from bl) (drop_bytes from bl r.bytes))

  -- a part that was not written leaves the output as it was
  part_back : y ≡ x → o ≡ out
  part_back e =
      let m : at + 480 - at ≡ 480 = omega arith in
      eo ∙ rw (e, ex, m) (ap (λ (z : List ℕ). take at out ++ z) (take-append-drop 480 (drop at out)) ∙ take-append-drop at out)

  by_verdict : (P : BlocksRead → List ℕ → Type 0)
      → (d.verdict t.progress b ≡ Accepted → (o ≡ take at out ++ (d.plain b ++ drop (at + 480) out)) → P (blocks_read_with (following t.progress (head_of_lem b) (drop 496 b)) (t.accepted + 1) (t.bytes + (head_of_lem b).len) End) o)
      → ((reason : Reason) → d.verdict t.progress b ≡ Refused reason → P (blocks_read_with t.progress t.accepted t.bytes (At t.accepted reason)) out)
      → P new o
  by_verdict P good bad = go (d.verdict t.progress b) refl
    where
      go : (v : Verdict) → d.verdict t.progress b ≡ v → P new o
      go Accepted q =
          let e : new ≡ blocks_read_with (following t.progress (head_of_lem b) (drop 496 b)) (t.accepted + 1) (t.bytes + (head_of_lem b).len) End =
          en ∙ ap (λ (v : Verdict). stepped v t (head_of_lem b) (drop 496 b)) q ∙ stepped_plain t (head_of_lem b) (drop 496 b) (omega (arith, r.here, r.most)) r.within (len_fits b bytes)
          ∙ ap (λ (z : Stop). blocks_read_with (following t.progress (head_of_lem b) (drop 496 b)) (t.accepted + 1) (t.bytes + (head_of_lem b).len) z) r.going in
          rw e (good q (part_put out at y (d.plain b) o (ey ∙ ap (λ (v : Verdict). part_after v (d.plain b) x) q) eo))
      go (Refused reason) q =
          let e : new ≡ blocks_read_with t.progress t.accepted t.bytes (At t.accepted reason) = en ∙ ap (λ (v : Verdict). stepped v t (head_of_lem b) (drop 496 b)) q in
          rw (e, part_back (ey ∙ ap (λ (v : Verdict). part_after v (d.plain b) x) q)) (bad reason q)

  step_keeps : length o ≡ length out
  step_keeps = by_verdict (λ (u : BlocksRead) (z : List ℕ). length z ≡ length out) (λ q e. part_keeps out at (d.plain b) o (part_room out at 480 given (omega arith)) (r.sized b size) e) (λ reason q. refl)

  step_within : new.bytes ≤ new.accepted * 65535
  step_within =
      by_verdict (λ (u : BlocksRead) (z : List ℕ). u.bytes ≤ u.accepted * 65535) (λ q e. omega (arith, r.within, len_fits b bytes)) (λ reason q. r.within)

  -- a turn that nothing has stopped has accepted the block
  step_on : new.stop ≡ End → new.accepted ≡ t.accepted + 1
  step_on =
      by_verdict (λ (u : BlocksRead) (z : List ℕ). u.stop ≡ End → u.accepted ≡ t.accepted + 1) (λ q e s. refl)
      (λ reason q s. let y : ◌≡◌ {A = ℕ} 0 1 = cc in absurd (omega arith))

  step_ahead : from ≡ t.accepted * 512 → at ≡ t.accepted * 480 → ahead d bl n new o ≡ ahead d bl n t out
  unfolding ahead ahead_by
  step_ahead ef ea =
      let el : b ≡ take 512 (drop (t.accepted * 512) bl) = eb ∙ ap (λ (a : ℕ). part bl a 512) ef ∙ part_is bl t.accepted in
      rw r.going
      (by_verdict (λ (u : BlocksRead) (z : List ℕ). ahead_by u.stop d bl n u z ≡ finish t.accepted t.bytes out (read_blocks d t.progress (cut (n - t.accepted) (drop (t.accepted * 512) bl))))
      (λ q e. step_accepted d bl t.progress t.accepted n t.bytes out r.here b el _ refl q (r.sized b size) r.room (r.small b q) o
      (e ∙ ap (λ (a : ℕ). take a out ++ (d.plain b ++ drop (a + 480) out)) ea))
      (λ reason q. step_refused d bl t.progress t.accepted n t.bytes out r.here b el _ refl reason q))

  pub one_more : (length o ≡ length out) × (new.bytes ≤ new.accepted * 65535) × (new.stop ≡ End → new.accepted ≡ t.accepted + 1)
      × (from ≡ t.accepted * 512 → at ≡ t.accepted * 480 → ahead d bl n new o ≡ ahead d bl n t out)
  one_more = (step_keeps, step_within, step_on, step_ahead)
