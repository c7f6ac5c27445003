-- A whole image: the writer's blocks are accepted one after another, and hold the payload. Assumes nothing.
use mathlib.Core.Path.{◌≡◌, refl, sym, ap, ap₂, subst, ◌∙◌}
use mathlib.Core.Bool.{Bool, true, false, ◌&&◌, ◌||◌, cond}
use mathlib.Core.Logic.{⊎_elim}
use mathlib.Core.List.{List, [], ◌∷◌, ◌++◌}
use Prim.Native.Nat.{ℕ, zero, suc, ◌+◌, ◌*◌, ◌-◌, ◌≤◌, ◌<◌}
use native.Mathlib.Nat.{zero-add, add-zero, zero-mul, eq-or-lt_of_le}
use native.Mathlib.Omega.{arith}
use borrow.Author.Tests.{eqb-true, eqb-false, eq-eqb, lt-ltb, le-leb}
use lib.Dec.{eqb, ltb, leb}
use lib.ListN.{length, get_or, take, drop, length-take, length-drop, take-append-drop}
use lib.Seq.{drop-drop}
use Rattle.octets.specs.Octets.{Bytes, Octets}
use Rattle.octets.specs.Blocks.{BlockCipher, Lawful}
use Rattle.octets.proofs.Blocks.{take_bytes, drop_bytes, zeros_bytes, length_nil}
use Rattle.modes_spec.specs.Pieces.{piece}
use Rattle.cmac_spec.specs.Cmac.{cmac}
use Rattle.image_layout.specs.Layout.{head_of_lem}
use Rattle.image_limits.specs.Fits.{length_fits}
use Rattle.image_progress.specs.Progress.{done}
use Rattle.image_layout.specs.declared.Head.{Head}
use Rattle.image_reasons.specs.declared.Verdict.TheVariants.{Accepted}
use Rattle.image_layout.proofs.Laws.{Wide}
use Rattle.image_spec.specs.Edition.{Edition, no_check}
use Rattle.image_progress.specs.declared.Progress.{Progress}
use Rattle.image_spec.specs.Sealed.{head_for, block_for}
use Rattle.image_spec.specs.Judge.{Keys, Rule, always, by_rule, fresh, taken}
use Rattle.image_reader_turn.specs.Turn.{Reading, later, read_blocks}
use Rattle.image_reader_tally.specs.declared.Stop.TheVariants.{End}
use Rattle.promises.proofs.Image.Words.{Proper, Right, Blocks, payload, parts, blocks, written, image}
use Rattle.promises.proofs.Lemmas.ImageSealed.{filled_payload, sealed_size, sealed_bytes, sealed_opened, sealed_head}
use Rattle.promises.proofs.Lemmas.ImageJudge.{sealed_accepted}
use Rattle.promises.proofs.Lemmas.ImageTurn.{ran_accepted}

-- ---- blocks that pass

-- every block is accepted, and the image is complete at the end
abbrev pub Passes : Keys → Rule → Progress → List (List ℕ) → Type 0
Passes k rule s [] = done s ≡ true
Passes k rule s (b ∷ bs) = ((by_rule k rule).verdict s b ≡ Accepted) × Passes k rule (taken s b) bs

module _ (k : Keys) (rule : Rule) where
  -- the first part of what passes
  pub passes_front : (s : Progress) (bs cs : List (List ℕ)) → Passes k rule s (bs ++ cs)
      → ((read_blocks (by_rule k rule) s bs).stop ≡ End) × ((read_blocks (by_rule k rule) s bs).accepted ≡ length bs) × Passes k rule (read_blocks (by_rule k rule) s bs).progress cs
  unfolding read_blocks
  passes_front s [] cs p = (refl, refl, p)
  passes_front s (b ∷ bs) cs p =
      let ih = passes_front (taken s b) bs cs p.1 in
      subst (λ (t : Reading). (t.stop ≡ End) × (t.accepted ≡ length (b ∷ bs)) × Passes k rule t.progress cs)
      (sym (ran_accepted (by_rule k rule) s b bs p.0)) (ap later ih.0, ap suc ih.1, ih.2)

-- ---- lengths by their place

cases_fit : (number count len : ℕ) → (number + 1 ≡ count → (len ≤ 480) × ((count ≡ 1 → ⊥) → 0 < len)) → ((number + 1 ≡ count → ⊥) → len ≡ 480)
    → length_fits number count len ≡ true
unfolding length_fits
cases_fit number count len last middle = go (eqb (number + 1) count) refl
  where
    or_true : (b : Bool) → (b || true) ≡ true
    or_true true = refl
    or_true false = refl

    some : (t : Bool) → eqb count 1 ≡ t → number + 1 ≡ count → (ltb 0 len || t) ≡ true
    some true q e = or_true (ltb 0 len)
    some false q e = rw (lt-ltb 0 len ((last e).1 (eqb-false count 1 q))) refl

    go : (t : Bool) → eqb (number + 1) count ≡ t → cond t (leb len 480 && (ltb 0 len || eqb count 1)) (eqb len 480) ≡ true
    go true q =
        let e = eqb-true (number + 1) count q in
        rw (le-leb len 480 (last e).0) (some (eqb count 1) refl e)
    go false q = eq-eqb len 480 (middle (eqb-false (number + 1) count q))

-- what is left of a payload from block n of N on
pub record Left (N n : ℕ) (p : List ℕ) : Type 0 where
  pub most : length p ≤ 480 * (N - n)
  pub least : n < N → (N ≡ 1 → ⊥) → 480 * (N - n - 1) < length p

pub left_fits : (N n : ℕ) (p : List ℕ) → n < N → Left N n p → length_fits n N (length (take 480 p)) ≡ true
left_fits N n p h t = cases_fit n N (length (take 480 p)) last middle
  where
    last : n + 1 ≡ N → (length (take 480 p) ≤ 480) × ((N ≡ 1 → ⊥) → 0 < length (take 480 p))
    last e = (omega (arith, length-take 480 p), λ o. omega (arith, length-take 480 p, t.least h o))

    middle : (n + 1 ≡ N → ⊥) → length (take 480 p) ≡ 480
    middle e =
        let l : n + 1 < N = ⊎_elim (λ q. absurd (e q)) (λ l. l) (eq-or-lt_of_le {n = n + 1} {m = N} (omega arith)) in
        let m = t.least h (λ o. omega arith) in
        omega (arith, length-take 480 p)

left_drop : (N n : ℕ) (p : List ℕ) → n < N → Left N n p → Left N (n + 1) (drop 480 p)
left_drop N n p h t = record { most = omega (arith, length-drop 480 p, t.most); least = λ a b. omega (arith, length-drop 480 p, t.least h b) }

left_all : (p : List ℕ) → Left (blocks p) 0 p
left_all p = record { most = omega arith; least = λ a b. omega arith }

-- ---- the writer's blocks are accepted

pub no_check_octets : Octets 16 no_check
no_check_octets = record { size = refl; bytes = zeros_bytes 16 }

module _ (ed : Edition) (pe : Proper ed) (ek ck : BlockCipher) (le : Lawful 16 ek) (lc : Lawful 16 ck) (N R : ℕ) (h_n : N ≤ 65535) (h_r : R < 4294967296) where
  abbrev keys : Keys
  keys = record { enc = ek; mac = cmac ck; usable = true }

  wide : (n : ℕ) (p : List ℕ) → n < N → Wide (head_for ed n N R (length (take 480 p)))
  wide n p h = record { number_wide = omega arith; count_wide = omega arith; release_wide = h_r; len_wide = omega (arith, length-take 480 p); reserved_wide = pe.mark_wide }

  -- a block of the next 480 bytes
  module _ (last : List ℕ) (ol : Octets 16 last) (n : ℕ) (p : List ℕ) (bp : Bytes p) where
    abbrev block : List ℕ
    block = block_for ed ek ck last n N R (take 480 p)

    small : length (take 480 p) ≤ 480
    small = omega (arith, length-take 480 p)

    tail_is : Bytes (ed.tail last)
    tail_is = pe.tail_bytes last ol

    block_octets : Octets 512 block
    block_octets = record {
      size = sealed_size ek ck le lc (head_for ed n N R (length (take 480 p))) (take 480 p) small (take_bytes 480 p bp) (ed.tail last) tail_is;
      bytes = sealed_bytes ek ck le lc (head_for ed n N R (length (take 480 p))) (take 480 p) small (take_bytes 480 p bp) (ed.tail last) tail_is;
    }

    check_octets : Octets 16 (drop 496 block)
    check_octets = record { size = omega (arith, length-drop 496 block, block_octets.size); bytes = drop_bytes 496 block block_octets.bytes }

    block_head : n < N → head_of_lem block ≡ head_for ed n N R (length (take 480 p))
    block_head h = sealed_head ek ck le lc (head_for ed n N R (length (take 480 p))) (take 480 p) small (take_bytes 480 p bp) (ed.tail last) tail_is (wide n p h)

    block_payload : n < N → payload ek block ≡ take 480 p
    block_payload h =
        ap₂ (λ (m : ℕ) (x : List ℕ). take m x) (ap (λ (x : Head). x.len) (block_head h)) (sealed_opened ek ck le lc (head_for ed n N R (length (take 480 p))) (take 480 p) small (take_bytes 480 p bp) (ed.tail last) tail_is)
        ∙ filled_payload (take 480 p) (length (take 480 p)) refl

  written_passes : (n : ℕ) (s : Progress) (p : List ℕ) → Octets 16 s.last → s.next + n ≡ N → (n ≡ 0 → 0 < s.next) → (0 < s.next → N ≡ s.count)
      → (0 < s.next → R ≡ s.release) → Bytes p → Left N s.next p → Passes keys (always ed) s (written ed ek ck N R s.last s.next n p)
  unfolding written done
  written_passes zero s p ol hn hf hc hr bp t =
      let f = hf refl in
      let e : eqb s.next s.count ≡ true = eq-eqb s.next s.count (omega (arith, hc f)) in
      rw (lt-ltb 0 s.next f, e) refl
  written_passes (suc n) s p ol hn hf hc hr bp t =
      let next = s.next in
      let below : next < N = omega arith in
      let h = head_for ed next N R (length (take 480 p)) in
      let b = block s.last ol next p bp in
      let right : Right ed.mark s h = record {
        still_open = λ l. omega (arith, hc l);
        count_low = omega arith;
        count_high = h_n;
        expected = refl;
        same_count = hc;
        same_release = hr;
        len_fits = left_fits N next p below t;
        marked = refl;
      } in
      let eh : head_of_lem b ≡ h = block_head s.last ol next p bp below in (
        sealed_accepted ek ck le lc ed s h (take 480 p) (tail_is s.last ol next p bp) (take_bytes 480 p bp) refl (wide next p below) right,
        written_passes n (taken s b) (drop 480 p) (check_octets s.last ol next p bp) (omega arith) (λ e. omega arith) (λ e. sym (ap (λ (x : Head). x.count) eh)) (λ e. sym (ap (λ (x : Head). x.release) eh))
            (drop_bytes 480 p bp) (left_drop N next p below t),
      )

  -- and hold the payload
  written_parts : (n number : ℕ) (last p : List ℕ) → Octets 16 last → number + n ≡ N → Bytes p → length p ≤ 480 * n → parts ek (written ed ek ck N R last number n p) ≡ p
  unfolding written
  written_parts zero number last p ol hn bp l = sym (length_nil p (omega arith))
  written_parts (suc n) number last p ol hn bp l =
      ap₂ ◌++◌ (block_payload last ol number p bp (omega arith))
      (written_parts n (number + 1) (drop 496 (block last ol number p bp)) (drop 480 p) (check_octets last ol number p bp) (omega arith) (drop_bytes 480 p bp) (omega (arith, length-drop 480 p)))
      ∙ take-append-drop 480 p

  written_blocks : (n number : ℕ) (last p : List ℕ) → Octets 16 last → Bytes p → Blocks (written ed ek ck N R last number n p)
  unfolding written
  written_blocks zero number last p ol bp = tt
  written_blocks (suc n) number last p ol bp =
      (block_octets last ol number p bp, written_blocks n (number + 1) (drop 496 (block last ol number p bp)) (drop 480 p) (check_octets last ol number p bp) (drop_bytes 480 p bp))

module _ (ed : Edition) (ek ck : BlockCipher) (N R : ℕ) where
  pub written_length : (n number : ℕ) (last p : List ℕ) → length (written ed ek ck N R last number n p) ≡ n
  unfolding written
  written_length zero number last p = refl
  written_length (suc n) number last p = ap suc (written_length n (number + 1) (drop 496 (block_for ed ek ck last number N R (take 480 p))) (drop 480 p))

  -- the check before block i
  abbrev pub check_before : (last : List ℕ) (bs : List (List ℕ)) → ℕ → List ℕ
  check_before last bs zero = last
  check_before last bs (suc i) = drop 496 (get_or bs i [])

  -- block i is the sealing of the i-th 480 bytes of the payload on that check
  pub written_at : (n number : ℕ) (last p : List ℕ) (i : ℕ) → i < n
      → get_or (written ed ek ck N R last number n p) i [] ≡ block_for ed ek ck (check_before last (written ed ek ck N R last number n p) i) (number + i) N R (piece 480 p i)
  unfolding written
  written_at zero number last p i h = absurd (omega arith)
  written_at (suc n) number last p zero h =
      ap₂ (λ (m k : ℕ). block_for ed ek ck last m N R (take 480 (drop k p))) (sym (add-zero number)) (sym (zero-mul 480))
  written_at (suc n) number last p (suc i) h =
      let b = block_for ed ek ck last number N R (take 480 p) in
      let rest = written ed ek ck N R (drop 496 b) (number + 1) n (drop 480 p) in
      let a : number + 1 + i ≡ number + suc i = omega arith in
      let c : 480 + i * 480 ≡ suc i * 480 = omega arith in
      let e : drop (i * 480) (drop 480 p) ≡ drop (suc i * 480) p = drop-drop (i * 480) 480 p ∙ ap (λ (m : ℕ). drop m p) c in
      written_at n (number + 1) (drop 496 b) (drop 480 p) i (omega arith)
      ∙ ap₂ (λ (m : ℕ) (x : List ℕ). block_for ed ek ck (check_before (drop 496 b) rest i) m N R (take 480 x)) a e
      ∙ ap (λ (x : List ℕ). block_for ed ek ck x (number + suc i) N R (piece 480 p (suc i))) (shift b rest i)
    where
      shift : (b : List ℕ) (rest : List (List ℕ)) (i : ℕ) → check_before (drop 496 b) rest i ≡ check_before last (b ∷ rest) (suc i)
      shift b rest zero = refl
      shift b rest (suc i) = refl

-- ---- the whole

module _ (ed : Edition) (pe : Proper ed) (ek ck : BlockCipher) (le : Lawful 16 ek) (lc : Lawful 16 ck) (R : ℕ) (p : List ℕ) (h_r : R < 4294967296) (lp : length p ≤ 31456800) (bp : Bytes p) where
  few : blocks p ≤ 65535
  few = omega arith

  pub image_blocks : Blocks (image ed ek ck R p)
  image_blocks = written_blocks ed pe ek ck le lc (blocks p) R few h_r (blocks p) 0 no_check p no_check_octets bp

  pub image_parts : parts ek (image ed ek ck R p) ≡ p
  image_parts = written_parts ed pe ek ck le lc (blocks p) R few h_r (blocks p) 0 no_check p no_check_octets (zero-add (blocks p)) bp (omega arith)

  pub image_passes : Passes (record { enc = ek; mac = cmac ck; usable = true }) (always ed) fresh (image ed ek ck R p)
  image_passes =
      written_passes ed pe ek ck le lc (blocks p) R few h_r (blocks p) fresh p no_check_octets (zero-add (blocks p)) (λ e. absurd (omega arith))
      (λ e. absurd (omega arith)) (λ e. absurd (omega arith)) bp (left_all p)
