-- What a fresh reader accepts whole: the writer's blocks of one payload and one release number. Assumes nothing.
use mathlib.Core.Path.{◌≡◌, refl, sym, ap, ap₂, subst, subst₂, ◌∙◌}
use mathlib.Core.Bool.{Bool, true, false, ◌&&◌, ◌||◌}
use mathlib.Core.Logic.{◌⊎◌, inl, inr, ⊎_elim}
use mathlib.Core.List.{List, [], ◌∷◌, ◌++◌, append-nil}
use Prim.Native.Nat.{ℕ, zero, suc, ◌+◌, ◌-◌, ◌≤◌, ◌<◌}
use native.Mathlib.Nat.{eq-or-lt_of_le, sub-zero}
use native.Mathlib.Omega.{arith}
use borrow.Author.Tests.{eqb-true, eq-eqb, ne_eqb, ltb-true}
use lib.Dec.{eqb, ltb, leb}
use lib.ListN.{length, take, drop, length-append, length-take, drop_of_length-le}
use lib.Seq.{take_at, drop_at, take_all}
use Rattle.octets.proofs.Both.{and_true}
use Rattle.octets.specs.Octets.{Bytes, Octets}
use Rattle.octets.specs.Words.{word}
use Rattle.octets.specs.Blocks.{BlockCipher, Lawful}
use Rattle.octets.proofs.Blocks.{take_bytes, append_bytes, length_nil}
use Rattle.cmac_spec.specs.Cmac.{cmac}
use Rattle.image_layout.specs.Layout.{head_of_lem}
use Rattle.image_limits.specs.Fits.{length_fits}
use Rattle.image_progress.specs.Progress.{done}
use Rattle.image_layout.specs.declared.Head.{Head}
use Rattle.image_layout.proofs.Laws.{Wide}
use Rattle.image_spec.specs.Edition.{Edition, no_check}
use Rattle.image_progress.specs.declared.Progress.{Progress}
use Rattle.image_spec.specs.Sealed.{head_for, block_for, sealed}
use Rattle.image_spec.specs.Judge.{Keys, Rule, always, either, by_rule, of_both, fresh, taken}
use Rattle.image_reader_turn.specs.Turn.{Reading, read_blocks, blocks_read}
use Rattle.image_reader_tally.specs.declared.Stop.TheVariants.{End}
use Rattle.image_reader.specs.Calls.{keys_of, turn_after, turn_of}
use Rattle.image_reader.specs.declared.Reader.{Reader}
use Rattle.image_reader.specs.declared.Turn.{Turn}
use Rattle.promises.proofs.Image.Words.{Proper, Met, Blocks, payload, parts, blocks, written, image, reading_of, given, Fair, Lending, AllFair, offered, reader_after, AllAccepted}
use Rattle.promises.proofs.Lemmas.ImageSealed.{sealed_head}
use Rattle.promises.proofs.Lemmas.ImageJudge.{accepted_met, right_below, fits_le, payload_length, payload_bytes, accepted_sealed}
use Rattle.promises.proofs.Lemmas.ImageTurn.{by_verdict, later_end, not_end}
use Rattle.promises.proofs.Lemmas.ImageWhole.{Passes, Left, no_check_octets}
use Rattle.promises.proofs.Lemmas.ImageCalls.{fair_turn, by_turn}

-- ---- blocks that pass, by the run over them

module _ (k : Keys) (rule : Rule) where
  -- a run that ends without a refusal, and blocks that pass from where it ended
  pub front_passes : (s : Progress) (bs cs : List (List ℕ)) → (read_blocks (by_rule k rule) s bs).stop ≡ End → Passes k rule (read_blocks (by_rule k rule) s bs).progress cs → Passes k rule s (bs ++ cs)
  unfolding read_blocks
  front_passes s [] cs = λ e p. p
  front_passes s (b ∷ bs) cs =
      by_verdict (by_rule k rule) s b bs (λ (t : Reading). t.stop ≡ End → Passes k rule t.progress cs → Passes k rule s (b ∷ (bs ++ cs)))
      (λ a e p. (a, front_passes (taken s b) bs cs (later_end (read_blocks (by_rule k rule) (taken s b) bs).stop e) p))
      (λ r a e p. absurd (not_end 0 r e))

-- ---- lengths by their place

pub fits_cases : (number count len : ℕ) → length_fits number count len ≡ true
    → (number + 1 ≡ count → (count ≡ 1 → ⊥) → 0 < len) × ((number + 1 ≡ count → ⊥) → len ≡ 480)
unfolding length_fits
fits_cases number count len e = (last, λ q. eqb-true len 480 (rw (ne_eqb (number + 1) count q) at e))
  where
    some : (a b c : Bool) → (a && (b || c)) ≡ true → c ≡ false → b ≡ true
    some true true c q z = refl
    some true false c q z = sym z ∙ q
    some false b c q z = let y : ◌≡◌ {A = ℕ} 0 1 = cc in absurd (omega arith)

    last : number + 1 ≡ count → (count ≡ 1 → ⊥) → 0 < len
    last q n = ltb-true 0 len (some (leb len 480) (ltb 0 len) (eqb count 1) (rw (eq-eqb (number + 1) count q) at e) (ne_eqb count 1 n))

-- the payload of block n before what is left behind it
left_step : (N n : ℕ) (p q : List ℕ) → n < N → length_fits n N (length p) ≡ true → Left N (n + 1) q → Left N n (p ++ q)
left_step N n p q h f t = ⊎_elim here on (eq-or-lt_of_le {n = n + 1} {m = N} (omega arith))
  where
    here : n + 1 ≡ N → Left N n (p ++ q)
    here e = record {
      most = omega (arith, length-append p q, t.most, fits_le n N (length p) f);
      least = λ a b. omega (arith, length-append p q, (fits_cases n N (length p) f).0 e b);
    }

    on : n + 1 < N → Left N n (p ++ q)
    on l =
        let m : length p ≡ 480 = (fits_cases n N (length p) f).1 (λ e. omega arith) in
        record { most = omega (arith, length-append p q, m, t.most); least = λ a b. omega (arith, length-append p q, m, t.least l b) }

-- a count is the number of blocks that the payload takes
left_count : (N : ℕ) (p : List ℕ) → 0 < N → Left N 0 p → N ≡ blocks p
left_count N p h t =
    ⊎_elim (λ e. omega (arith, t.most)) (λ l. omega (arith, t.most, t.least h (λ e. omega arith))) (eq-or-lt_of_le {n = 1} {m = N} h)

-- ---- accepted blocks are the writer's

-- the release number that the first block says
abbrev pub release_of : List (List ℕ) → ℕ
release_of [] = 0
release_of (b ∷ bs) = (head_of_lem b).release

pub release_wide : (b : List ℕ) → Bytes b → (head_of_lem b).release < 4294967296
unfolding head_of_lem word
release_wide b w = omega (arith, w 8, w 9, w 10, w 11)

module _ (ed : Edition) (ek ck : BlockCipher) where
  -- a block, and the writer's blocks behind it
  joins : (N R : ℕ) (last : List ℕ) (n k : ℕ) (p q : List ℕ) → length p ≤ 480 → (length p ≡ 480) ⊎ (length q ≡ 0)
      → (b : List ℕ) → b ≡ block_for ed ek ck last n N R p
      → b ∷ written ed ek ck N R (drop 496 b) (n + 1) k q ≡ written ed ek ck N R last n (suc k) (p ++ q)
  unfolding written
  joins N R last n k p q lp c b e =
      let f : (take 480 (p ++ q) ≡ p) × (drop 480 (p ++ q) ≡ q) = ⊎_elim full short c in
      ap₂ (λ (x y : List ℕ). x ∷ written ed ek ck N R (drop 496 x) (n + 1) k y) (e ∙ ap (block_for ed ek ck last n N R) (sym f.0)) (sym f.1)
    where
      full : length p ≡ 480 → (take 480 (p ++ q) ≡ p) × (drop 480 (p ++ q) ≡ q)
      full e = (take_at p q 480 e, drop_at p q 480 e)

      short : length q ≡ 0 → (take 480 (p ++ q) ≡ p) × (drop 480 (p ++ q) ≡ q)
      short h = let r : q ≡ [] = length_nil q h in rw (r, append-nil p) (take_all 480 p lp, drop_of_length-le p {i = 480} lp)

  -- blocks are the writer's from block n of N on, of the payloads that they hold
  abbrev Rest : (N R : ℕ) (last : List ℕ) (n : ℕ) → List (List ℕ) → Type 0
  Rest N R last n bs = (bs ≡ written ed ek ck N R last n (N - n) (parts ek bs)) × Left N n (parts ek bs) × Bytes (parts ek bs)

  module _ (le : Lawful 16 ek) where
    abbrev keys : Keys
    keys = record { enc = ek; mac = cmac ck; usable = true }

    module _ (s : Progress) (b : List ℕ) (o : Octets 512 b) (m : Met keys ed s b) where
      abbrev p : List ℕ
      p = payload ek b

      abbrev next : ℕ
      next = s.next

      size : length p ≡ (head_of_lem b).len
      size = payload_length keys le ed s b o.size o.bytes m

      below : next < (head_of_lem b).count
      below = omega (arith, right_below ed.mark s (head_of_lem b) m.head_right, m.head_right.expected)

      fits : length_fits next (head_of_lem b).count (length p) ≡ true
      fits = ap₂ (λ (n l : ℕ). length_fits n (head_of_lem b).count l) (sym m.head_right.expected) size ∙ m.head_right.len_fits

      block_is : b ≡ block_for ed ek ck s.last next (head_of_lem b).count (head_of_lem b).release p
      block_is =
          accepted_sealed keys le ed s b o.size o.bytes m
          ∙ ap (λ (h : Head). sealed ek (cmac ck) (ed.tail s.last) h p)
          (λ i. record { number = m.head_right.expected i; count = (head_of_lem b).count; release = (head_of_lem b).release; len = sym size i; reserved = m.head_right.marked i })

      -- an accepted block before blocks that are the writer's
      step : (bs : List (List ℕ)) → Rest (head_of_lem b).count (head_of_lem b).release (drop 496 b) (next + 1) bs → Rest (head_of_lem b).count (head_of_lem b).release s.last next (b ∷ bs)
      step bs t =
          let N = (head_of_lem b).count in
          let R = (head_of_lem b).release in
          let q = parts ek bs in
          let e : N - next ≡ suc (N - (next + 1)) = omega (arith, below) in
          let c : (length p ≡ 480) ⊎ (length q ≡ 0) =
          ⊎_elim (λ v. inr (omega (arith, t.1.most))) (λ v. inl ((fits_cases next N (length p) fits).1 (λ w. omega arith))) (eq-or-lt_of_le {n = next + 1} {m = N} (omega (arith, below))) in (
            ap (b ∷◌) t.0
                ∙ joins N R s.last next (N - (next + 1)) p q (fits_le next N (length p) fits) c b block_is
                ∙ ap (λ (n : ℕ). written ed ek ck N R s.last next n (p ++ q)) (sym e),
            left_step N next p q below fits t.1,
            append_bytes p q (payload_bytes keys le ed s b o.size o.bytes m) t.2,
          )

    -- once a block has been accepted
    rest_of : (s : Progress) (bs : List (List ℕ)) → Passes keys (always ed) s bs → Blocks bs → 0 < s.next → Rest s.count s.release s.last s.next bs
    unfolding written done
    rest_of s [] d w f =
        let e : s.next ≡ s.count = eqb-true s.next s.count (and_true (ltb 0 s.next) (eqb s.next s.count) d).1 in
        let z : s.count - s.next ≡ 0 = omega arith in (
          ap (λ (n : ℕ). written ed ek ck s.count s.release s.last s.next n []) (sym z),
          record { most = omega arith; least = λ a b. omega arith },
          λ k. omega arith,
        )
    rest_of s (b ∷ bs) d w f =
        let m = accepted_met keys ed s b d.0 in
        subst₂ (λ (N R : ℕ). Rest N R s.last s.next (b ∷ bs)) (m.head_right.same_count f) (m.head_right.same_release f)
        (step s b w.0 m bs (rest_of (taken s b) bs d.1 w.1 (omega arith)))

    -- what passes from the start on is the image of the payloads that it holds, under the release number of its first block
    pub passes_image : (bs : List (List ℕ)) → Blocks bs → Passes keys (always ed) fresh bs
        → (release_of bs < 4294967296) × (length (parts ek bs) ≤ 31456800) × Bytes (parts ek bs) × (bs ≡ image ed ek ck (release_of bs) (parts ek bs))
    unfolding done
    passes_image [] w d = let z : ◌≡◌ {A = ℕ} 0 1 = cc in absurd (omega arith)
    passes_image (b ∷ bs) w d =
        let m = accepted_met keys ed fresh b d.0 in
        let p = parts ek (b ∷ bs) in
        let N = (head_of_lem b).count in
        let t : Rest N (head_of_lem b).release no_check 0 (b ∷ bs) = step fresh b w.0 m bs (rest_of (taken fresh b) bs d.1 w.1 (omega arith)) in
        let n : N ≡ blocks p = left_count N p m.head_right.count_low t.1 in (
          release_wide b w.0.bytes,
          omega (arith, t.1.most, m.head_right.count_high),
          t.2,
          t.0 ∙ ap₂ (λ (x y : ℕ). written ed ek ck x (head_of_lem b).release no_check 0 y p) n (sub-zero N ∙ n),
        )

  -- ---- the first block of an image says its release number

  module _ (pe : Proper ed) (le : Lawful 16 ek) (lc : Lawful 16 ck) (R : ℕ) (p : List ℕ) (h_r : R < 4294967296) (lp : length p ≤ 31456800) (bp : Bytes p) where
    abbrev head : Head
    head = head_for ed 0 (blocks p) R (length (take 480 p))

    few : length (take 480 p) ≤ 480
    few = omega (arith, length-take 480 p)

    wide : Wide head
    wide = record { number_wide = omega arith; count_wide = omega arith; release_wide = h_r; len_wide = omega (arith, few); reserved_wide = pe.mark_wide }

    pub image_release : release_of (image ed ek ck R p) ≡ R
    unfolding written
    image_release = go (blocks p) (omega arith)
      where
        go : (n : ℕ) → 0 < n → release_of (written ed ek ck (blocks p) R no_check 0 n p) ≡ R
        go zero h = absurd (omega arith)
        go (suc n) h = ap (λ (x : Head). x.release) (sealed_head ek ck le lc head (take 480 p) few (take_bytes 480 p bp) (ed.tail no_check) (pe.tail_bytes no_check no_check_octets) wide)

-- ---- turns

-- a turn that ends without a refusal was not refused as a whole
end_fair : (r : Reader) (lent : List ℕ) (asked : ℕ) (out : List ℕ) → (turn_of r lent asked out).0.stop ≡ End → Fair lent asked out
end_fair r lent asked out =
    by_turn r lent asked out (λ (t : Turn × List ℕ). t.0.stop ≡ End → Fair lent asked out)
    (λ e. let z : ◌≡◌ {A = ℕ} 0 1 = cc in absurd (omega arith)) (λ e. let z : ◌≡◌ {A = ℕ} 0 1 = cc in absurd (omega arith)) (λ e. let z : ◌≡◌ {A = ℕ} 0 1 = cc in absurd (omega arith))
    (λ f e. f)

-- turns that accept all that they handle, and a reader that is complete after them: the blocks pass
pub turns_passed : (k : Keys) (r : Reader) → keys_of r ≡ k → (ls : List Lending) → AllAccepted r ls → done (reader_after r ls).progress ≡ true
    → AllFair ls × Passes k either r.progress (offered ls)
turns_passed k r e [] a d = (tt, d)
turns_passed k r e (l ∷ ls) a d =
    let bs = given l.lent l.asked in
    let s = r.progress in
    let R = reading_of r l.lent l.asked in
    let f = end_fair r l.lent l.asked l.out a.0 in
    let t : (R.stop ≡ End) × AllAccepted (turn_after r (blocks_read R)).reader ls × (done (reader_after (turn_after r (blocks_read R)).reader ls).progress ≡ true) =
    subst (λ (x : Turn × List ℕ). (x.0.stop ≡ End) × AllAccepted x.0.reader ls × (done (reader_after x.0.reader ls).progress ≡ true)) (fair_turn r l.lent l.asked l.out f) (a.0, a.2, d) in
    let ih = turns_passed k (turn_after r (blocks_read R)).reader e ls t.1 t.2 in
    let er : R ≡ read_blocks (of_both k) s bs = ap (λ (x : Keys). read_blocks (of_both x) s bs) e in
    let p : ((read_blocks (of_both k) s bs).stop ≡ End) × Passes k either (read_blocks (of_both k) s bs).progress (offered ls) =
    subst (λ (x : Reading). (x.stop ≡ End) × Passes k either x.progress (offered ls)) er (t.0, ih.1) in (
      (f, ih.0),
      front_passes k either s bs (offered ls) p.0 p.1,
    )
