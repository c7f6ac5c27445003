-- A run over blocks until the first that is refused: what was accepted, what was handed out, and where it stopped. Assumes nothing.
use mathlib.Core.Path.{◌≡◌, refl, sym, ap, ap₂, ◌∙◌}
use mathlib.Core.Bool.{true, false}
use mathlib.Core.List.{List, [], ◌∷◌, ◌++◌, append_assoc}
use Prim.Native.Nat.{ℕ, zero, suc, ◌+◌, ◌*◌, ◌≤◌, ◌<◌}
use native.Mathlib.Nat.{zero-add}
use native.Mathlib.Omega.{arith}
use lib.ListN.{length, get_or, take, drop, length-append, length-take}
use lib.Seq.{take_at, drop_at, drop-drop, take-append-le}
use Rattle.octets.specs.Blocks.{BlockCipher, Lawful}
use Rattle.image_layout.specs.Layout.{head_of_lem}
use Rattle.image_reasons.specs.declared.Reason.{Reason}
use Rattle.image_reasons.specs.declared.Verdict.{Verdict}
use Rattle.image_reasons.specs.declared.Verdict.TheVariants.{Accepted, Refused}
use Rattle.image_progress.specs.declared.Progress.{Progress}
use Rattle.image_spec.specs.Sealed.{opened}
use Rattle.image_spec.specs.Judge.{Keys, BlockReader, Rule, by_rule, taken}
use Rattle.image_reader_turn.specs.Turn.{Reading, later, onward, read_blocks}
use Rattle.image_reader_tally.specs.declared.Stop.{Stop}
use Rattle.image_reader_tally.specs.declared.Stop.TheVariants.{End, Asked, Lent, Room, At}
use Rattle.promises.proofs.Image.Words.{AllMet, Blocks, payload, plains, parts, lengths, AllFilled, parts_in, moved, later_by, and_then}
use Rattle.promises.proofs.Lemmas.ImageJudge.{accepted_met, met_accepted, opened_length, payload_length, payload_filled}

-- ---- stops

pub not_end : (n : ℕ) (r : Reason) → At n r ≡ End → ⊥
not_end n r e = let z : ◌≡◌ {A = ℕ} 0 1 = cc in omega arith

pub later_end : (x : Stop) → later x ≡ End → x ≡ End
later_end End e = refl
later_end Asked e = let z : ◌≡◌ {A = ℕ} 0 1 = cc in absurd (omega arith)
later_end Lent e = let z : ◌≡◌ {A = ℕ} 0 1 = cc in absurd (omega arith)
later_end Room e = let z : ◌≡◌ {A = ℕ} 0 1 = cc in absurd (omega arith)
later_end (At n r) e = let z : ◌≡◌ {A = ℕ} 0 1 = cc in absurd (omega arith)

later_at : (x : Stop) (p : ℕ) (r : Reason) (P : Type 0) → later x ≡ At p r → ((q : ℕ) → p ≡ suc q → x ≡ At q r → P) → P
later_at End p r P e f = let z : ◌≡◌ {A = ℕ} 0 1 = cc in absurd (omega arith)
later_at Asked p r P e f = let z : ◌≡◌ {A = ℕ} 0 1 = cc in absurd (omega arith)
later_at Lent p r P e f = let z : ◌≡◌ {A = ℕ} 0 1 = cc in absurd (omega arith)
later_at Room p r P e f = let z : ◌≡◌ {A = ℕ} 0 1 = cc in absurd (omega arith)
later_at (At q y) p r P e f =
    let a : suc q ≡ p = cc in
    let b : y ≡ r = cc in
    f q (sym a) (ap (At q) b)

later-by : (n : ℕ) (x : Stop) → later (later_by n x) ≡ later_by (suc n) x
later-by n End = refl
later-by n Asked = refl
later-by n Lent = refl
later-by n Room = refl
later-by n (At p r) = ap (λ (q : ℕ). At q r) (sum n p)
  where
    sum : (n p : ℕ) → suc (n + p) ≡ suc n + p
    sum n p = omega arith

by_none : (x : Stop) → later_by 0 x ≡ x
by_none End = refl
by_none Asked = refl
by_none Lent = refl
by_none Room = refl
by_none (At p r) = ap (λ (q : ℕ). At q r) (zero-add p)

-- ---- a run by its first block, for every reader of blocks

module _ (d : BlockReader) where
  pub ran_accepted : (s : Progress) (b : List ℕ) (bs : List (List ℕ)) → d.verdict s b ≡ Accepted
      → read_blocks d s (b ∷ bs) ≡ onward Accepted s (head_of_lem b).len (d.plain b) (read_blocks d (taken s b) bs)
  unfolding read_blocks
  ran_accepted s b bs e = rw e

  pub by_verdict : (s : Progress) (b : List ℕ) (bs : List (List ℕ)) (P : Reading → Type 0)
      → (d.verdict s b ≡ Accepted → P (onward Accepted s (head_of_lem b).len (d.plain b) (read_blocks d (taken s b) bs)))
      → ((r : Reason) → d.verdict s b ≡ Refused r → P (record { progress = s; accepted = 0; bytes = 0; stop = At 0 r; out = [] })) → P (read_blocks d s (b ∷ bs))
  unfolding read_blocks
  by_verdict s b bs P f g = go (d.verdict s b) refl
    where
      go : (v : Verdict) → d.verdict s b ≡ v → P (onward v s (head_of_lem b).len (d.plain b) (read_blocks d (taken s b) bs))
      go Accepted e = f e
      go (Refused r) e = g r e

  -- ---- what was accepted

  -- the blocks accepted are the advance of the number expected
  pub advance : (s : Progress) (bs : List (List ℕ)) → (read_blocks d s bs).progress.next ≡ s.next + (read_blocks d s bs).accepted
  unfolding read_blocks
  advance s [] = omega arith
  advance s (b ∷ bs) =
      by_verdict s b bs (λ (t : Reading). t.progress.next ≡ s.next + t.accepted)
      (λ e. omega (arith, advance (taken s b) bs)) (λ r e. omega arith)

  pub accepted_le : (s : Progress) (bs : List (List ℕ)) → (read_blocks d s bs).accepted ≤ length bs
  unfolding read_blocks
  accepted_le s [] = omega arith
  accepted_le s (b ∷ bs) =
      by_verdict s b bs (λ (t : Reading). t.accepted ≤ length (b ∷ bs))
      (λ e. omega (arith, accepted_le (taken s b) bs)) (λ r e. omega arith)

  -- where nothing is refused, all were
  pub end_all : (s : Progress) (bs : List (List ℕ)) → (read_blocks d s bs).stop ≡ End → (read_blocks d s bs).accepted ≡ length bs
  unfolding read_blocks
  end_all s [] = λ h. refl
  end_all s (b ∷ bs) =
      by_verdict s b bs (λ (t : Reading). t.stop ≡ End → t.accepted ≡ length (b ∷ bs))
      (λ e h. ap suc (end_all (taken s b) bs (later_end (read_blocks d (taken s b) bs).stop h)))
      (λ r e h. absurd (not_end 0 r h))

  -- a run stops at its end or at a block, and in no other way
  pub ends_or_at : (s : Progress) (bs : List (List ℕ)) (P : Type 0) → ((read_blocks d s bs).stop ≡ End → P) → ((r : Reason) → (read_blocks d s bs).stop ≡ At (read_blocks d s bs).accepted r → P) → P
  unfolding read_blocks
  ends_or_at s [] P = λ f g. f refl
  ends_or_at s (b ∷ bs) P =
      by_verdict s b bs (λ (t : Reading). (t.stop ≡ End → P) → ((r : Reason) → t.stop ≡ At t.accepted r → P) → P)
      (λ e f g. ends_or_at (taken s b) bs P (λ q. f (ap later q)) (λ r q. g r (ap later q)))
      (λ r e f g. g r refl)

  -- the place of the refused block is the number of those accepted, and its reason is its verdict where the run ended
  pub stop_place : (s : Progress) (bs : List (List ℕ)) (p : ℕ) (r : Reason) → (read_blocks d s bs).stop ≡ At p r
      → (p ≡ (read_blocks d s bs).accepted) × (p < length bs) × (d.verdict (read_blocks d s bs).progress (get_or bs p []) ≡ Refused r)
  unfolding read_blocks
  stop_place s [] p r = λ h. absurd (not_end p r (sym h))
  stop_place s (b ∷ bs) p r =
      by_verdict s b bs (λ (t : Reading). t.stop ≡ At p r → (p ≡ t.accepted) × (p < length (b ∷ bs)) × (d.verdict t.progress (get_or (b ∷ bs) p []) ≡ Refused r))
      (λ e h.
      let t = read_blocks d (taken s b) bs in
      later_at t.stop p r ((p ≡ suc t.accepted) × (p < length (b ∷ bs)) × (d.verdict t.progress (get_or (b ∷ bs) p []) ≡ Refused r)) h
      (λ q i j. let ih = stop_place (taken s b) bs q r j in rw i (ap suc ih.0, omega (arith, ih.1), ih.2)))
      (λ y e h.
      let i : p ≡ 0 = cc in
      let j : y ≡ r = cc in
      rw i (refl, omega arith, e ∙ ap Refused j))

  -- a block that is refused wherever the reader stands is where the run ends, if it gets there
  pub stops_by : (s : Progress) (bs : List (List ℕ)) (p : ℕ) (why : Progress → Reason) → p < length bs → ((t : Progress) → d.verdict t (get_or bs p []) ≡ Refused (why t))
      → ((read_blocks d s bs).accepted ≤ p) × ((read_blocks d s bs).accepted ≡ p → (read_blocks d s bs).stop ≡ At p (why (read_blocks d s bs).progress))
  unfolding read_blocks
  stops_by s [] p why = λ h f. absurd (omega arith)
  stops_by s (b ∷ bs) zero why =
      by_verdict s b bs
      (λ (t : Reading). 0 < length (b ∷ bs) → ((u : Progress) → d.verdict u b ≡ Refused (why u)) → (t.accepted ≤ 0) × (t.accepted ≡ 0 → t.stop ≡ At 0 (why t.progress)))
      (λ e h f. absurd (unlike (sym e ∙ f s)))
      (λ r e h f. let q : Refused r ≡ Refused (why s) = sym e ∙ f s in let j : r ≡ why s = cc in (omega arith, λ z. ap (At 0) j))
    where
      unlike : {r : Reason} → Accepted ≡ Refused r → ⊥
      unlike q = let z : ◌≡◌ {A = ℕ} 0 1 = cc in omega arith
  stops_by s (b ∷ bs) (suc p) why =
      by_verdict s b bs
      (λ (t : Reading). suc p < length (b ∷ bs) → ((u : Progress) → d.verdict u (get_or bs p []) ≡ Refused (why u))
      → (t.accepted ≤ suc p) × (t.accepted ≡ suc p → t.stop ≡ At (suc p) (why t.progress)))
      (λ e h f. let ih = stops_by (taken s b) bs p why (omega arith) f in (omega (arith, ih.0), λ z. ap later (ih.1 (omega arith))))
      (λ r e h f. (omega arith, λ z. absurd (omega arith)))

  -- where none was accepted, nothing was
  pub none_accepted : (s : Progress) (bs : List (List ℕ)) → (read_blocks d s bs).accepted ≡ 0
      → ((read_blocks d s bs).progress ≡ s) × ((read_blocks d s bs).bytes ≡ 0) × ((read_blocks d s bs).out ≡ [])
  unfolding read_blocks
  none_accepted s [] = λ h. (refl, refl, refl)
  none_accepted s (b ∷ bs) =
      by_verdict s b bs (λ (t : Reading). t.accepted ≡ 0 → (t.progress ≡ s) × (t.bytes ≡ 0) × (t.out ≡ []))
      (λ e h. absurd (omega arith)) (λ r e h. (refl, refl, refl))

  -- the reader moves by the accepted blocks alone
  pub ran_state : (s : Progress) (bs : List (List ℕ)) → (read_blocks d s bs).progress ≡ moved s (take (read_blocks d s bs).accepted bs)
  unfolding read_blocks
  ran_state s [] = refl
  ran_state s (b ∷ bs) =
      by_verdict s b bs (λ (t : Reading). t.progress ≡ moved s (take t.accepted (b ∷ bs)))
      (λ e. ran_state (taken s b) bs) (λ r e. refl)

  pub ran_bytes : (s : Progress) (bs : List (List ℕ)) → (read_blocks d s bs).bytes ≡ lengths (take (read_blocks d s bs).accepted bs)
  unfolding read_blocks
  ran_bytes s [] = refl
  ran_bytes s (b ∷ bs) =
      by_verdict s b bs (λ (t : Reading). t.bytes ≡ lengths (take t.accepted (b ∷ bs)))
      (λ e. ap ((head_of_lem b).len +◌) (ran_bytes (taken s b) bs)) (λ r e. refl)

  -- ---- one run after another

  pub ran_append : (s : Progress) (cs bs : List (List ℕ)) → (read_blocks d s cs).stop ≡ End
      → read_blocks d s (cs ++ bs) ≡ and_then (read_blocks d s cs) (read_blocks d (read_blocks d s cs).progress bs)
  unfolding read_blocks
  ran_append s [] bs h =
      let t = read_blocks d s bs in
      let e : 0 + t.accepted ≡ t.accepted = zero-add t.accepted in
      let f : 0 + t.bytes ≡ t.bytes = zero-add t.bytes in
      rw (by_none t.stop, e, f)
  ran_append s (c ∷ cs) bs h = go (d.verdict s c) refl h (ran_append (taken s c) cs bs)
    where
      r : Reading
      r = read_blocks d (taken s c) cs

      t : Reading
      t = read_blocks d r.progress bs

      joins : (x : Reading) → x ≡ and_then r t
          → onward Accepted s (head_of_lem c).len (d.plain c) x ≡ and_then (onward Accepted s (head_of_lem c).len (d.plain c) r) t
      joins x e =
          ap (λ (y : Reading). onward Accepted s (head_of_lem c).len (d.plain c) y) e
          ∙ parts_same (later-by r.accepted t.stop) (add (head_of_lem c).len r.bytes t.bytes) (sym (append_assoc (d.plain c) r.out t.out))
        where
          add : (x y z : ℕ) → x + (y + z) ≡ x + y + z
          add x y z = omega arith

          count : suc (r.accepted + t.accepted) ≡ suc r.accepted + t.accepted
          count = omega arith

          parts_same : {u u' : Stop} {n n' : ℕ} {o o' : List ℕ} → u ≡ u' → n ≡ n' → o ≡ o'
              → ◌≡◌ {A = Reading} (record { progress = t.progress; accepted = suc (r.accepted + t.accepted); bytes = n; stop = u; out = o })
              (record { progress = t.progress; accepted = suc r.accepted + t.accepted; bytes = n'; stop = u'; out = o' })
          parts_same p q o = rw (p, q, o, count)

      go : (v : Verdict) → d.verdict s c ≡ v → (onward v s (head_of_lem c).len (d.plain c) r).stop ≡ End
          → (r.stop ≡ End → read_blocks d (taken s c) (cs ++ bs) ≡ and_then r t)
          → onward v s (head_of_lem c).len (d.plain c) (read_blocks d (taken s c) (cs ++ bs))
          ≡ and_then (onward v s (head_of_lem c).len (d.plain c) r) (read_blocks d (onward v s (head_of_lem c).len (d.plain c) r).progress bs)
      go Accepted e q ih = joins (read_blocks d (taken s c) (cs ++ bs)) (ih (later_end r.stop q))
      go (Refused y) e q ih = absurd (not_end 0 y q)

  -- a block that is refused where the reader stands after those before it is where the run ends, if it gets there
  pub stops_at : (s : Progress) (bs : List (List ℕ)) (p : ℕ) (r : Reason) → p < length bs → d.verdict (moved s (take p bs)) (get_or bs p []) ≡ Refused r
      → ((read_blocks d s bs).accepted ≤ p) × ((read_blocks d s bs).accepted ≡ p → ((read_blocks d s bs).stop ≡ At p r) × ((read_blocks d s bs).progress ≡ moved s (take p bs)))
  unfolding read_blocks
  stops_at s [] p r = λ h f. absurd (omega arith)
  stops_at s (b ∷ bs) zero r =
      by_verdict s b bs
      (λ (t : Reading). 0 < length (b ∷ bs) → d.verdict s b ≡ Refused r → (t.accepted ≤ 0) × (t.accepted ≡ 0 → (t.stop ≡ At 0 r) × (t.progress ≡ s)))
      (λ e h f. absurd (unlike (sym e ∙ f)))
      (λ y e h f. let q : Refused y ≡ Refused r = sym e ∙ f in let j : y ≡ r = cc in (omega arith, λ z. (ap (At 0) j, refl)))
    where
      unlike : Accepted ≡ Refused r → ⊥
      unlike q = let z : ◌≡◌ {A = ℕ} 0 1 = cc in omega arith
  stops_at s (b ∷ bs) (suc p) r =
      by_verdict s b bs
      (λ (t : Reading). suc p < length (b ∷ bs) → d.verdict (moved (taken s b) (take p bs)) (get_or bs p []) ≡ Refused r
      → (t.accepted ≤ suc p) × (t.accepted ≡ suc p → (t.stop ≡ At (suc p) r) × (t.progress ≡ moved (taken s b) (take p bs))))
      (λ e h f. let ih = stops_at (taken s b) bs p r (omega arith) f in (omega (arith, ih.0), λ z. let i = ih.1 (omega arith) in (ap later i.0, i.1)))
      (λ y e h f. (omega arith, λ z. absurd (omega arith)))

-- ---- the reader by a rule

module _ (k : Keys) (rule : Rule) where
  abbrev reader : BlockReader
  reader = by_rule k rule

  -- every accepted block met every test
  pub ran_met : (s : Progress) (bs : List (List ℕ)) → AllMet k rule s (read_blocks reader s bs).accepted bs
  unfolding read_blocks
  ran_met s [] = tt
  ran_met s (b ∷ bs) =
      by_verdict reader s b bs (λ (t : Reading). AllMet k rule s t.accepted (b ∷ bs))
      (λ e. (accepted_met k (rule s (head_of_lem b).reserved) s b e, ran_met (taken s b) bs)) (λ r e. tt)

  -- where all do, the run ends without a refusal
  pub met_ends : (s : Progress) (bs : List (List ℕ)) → AllMet k rule s (length bs) bs → (read_blocks reader s bs).stop ≡ End
  unfolding read_blocks
  met_ends s [] m = refl
  met_ends s (b ∷ bs) m = ap (λ (t : Reading). t.stop) (ran_accepted reader s b bs (met_accepted k (rule s (head_of_lem b).reserved) s b m.0)) ∙ ap later (met_ends (taken s b) bs m.1)

  -- ---- count and release

  still_fixed : (s : Progress) (bs : List (List ℕ)) → 0 < s.next
      → (0 < (read_blocks reader s bs).progress.next) × ((read_blocks reader s bs).progress.count ≡ s.count) × ((read_blocks reader s bs).progress.release ≡ s.release)
  unfolding read_blocks
  still_fixed s [] f = (f, refl, refl)
  still_fixed s (b ∷ bs) f =
      by_verdict reader s b bs
      (λ (t : Reading). (0 < t.progress.next) × (t.progress.count ≡ s.count) × (t.progress.release ≡ s.release))
      (λ e.
      let ih = still_fixed (taken s b) bs (omega arith) in
      let m = (accepted_met k (rule s (head_of_lem b).reserved) s b e).head_right in
      (ih.0, ih.1 ∙ m.same_count f, ih.2 ∙ m.same_release f))
      (λ r e. (f, refl, refl))

  -- the first accepted block fixes them, for all that follow
  pub first_fixes : (s : Progress) (b : List ℕ) (bs : List (List ℕ)) → 0 < (read_blocks reader s (b ∷ bs)).accepted
      → (0 < (read_blocks reader s (b ∷ bs)).progress.next)
      × ((read_blocks reader s (b ∷ bs)).progress.count ≡ (head_of_lem b).count) × ((read_blocks reader s (b ∷ bs)).progress.release ≡ (head_of_lem b).release)
  first_fixes s b bs =
      by_verdict reader s b bs
      (λ (t : Reading). 0 < t.accepted
      → (0 < t.progress.next) × (t.progress.count ≡ (head_of_lem b).count) × (t.progress.release ≡ (head_of_lem b).release))
      (λ e h. still_fixed (taken s b) bs (omega arith)) (λ r e h. absurd (omega arith))

  -- without usable keys none is accepted
  pub no_keys_none : k.usable ≡ false → (s : Progress) (bs : List (List ℕ)) → (read_blocks reader s bs).accepted ≡ 0
  unfolding read_blocks
  no_keys_none u s [] = refl
  no_keys_none u s (b ∷ bs) =
      by_verdict reader s b bs (λ (t : Reading). t.accepted ≡ 0)
      (λ e. absurd (refuses (accepted_met k (rule s (head_of_lem b).reserved) s b e).usable_keys)) (λ r e. refl)
    where
      refuses : k.usable ≡ true → ⊥
      refuses e = let z : true ≡ false = sym e ∙ u in let y : ◌≡◌ {A = ℕ} 0 1 = cc in omega arith

  -- ---- what was handed out

  pub ran_out : (s : Progress) (bs : List (List ℕ)) → (read_blocks reader s bs).out ≡ plains k.enc (take (read_blocks reader s bs).accepted bs)
  unfolding read_blocks
  ran_out s [] = refl
  ran_out s (b ∷ bs) =
      by_verdict reader s b bs (λ (t : Reading). t.out ≡ plains k.enc (take t.accepted (b ∷ bs)))
      (λ e. ap (opened k.enc b ++◌) (ran_out (taken s b) bs)) (λ r e. refl)

  -- 480 bytes of each accepted block
  pub out_length : Lawful 16 k.enc → (s : Progress) (bs : List (List ℕ)) → Blocks bs → length (read_blocks reader s bs).out ≡ 480 * (read_blocks reader s bs).accepted
  unfolding read_blocks
  out_length l s [] w = refl
  out_length l s (b ∷ bs) w =
      by_verdict reader s b bs (λ (t : Reading). length t.out ≡ 480 * t.accepted)
      (λ e.
      let t = read_blocks reader (taken s b) bs in
      length-append (opened k.enc b) t.out
      ∙ omega (arith, opened_length k.enc l b w.0.size w.0.bytes, out_length l (taken s b) bs w.1))
      (λ r e. refl)

  -- accepted block j has its bytes at 480j
  pub out_at : Lawful 16 k.enc → (s : Progress) (bs : List (List ℕ)) → Blocks bs → (rest : List ℕ) (j : ℕ) → j < (read_blocks reader s bs).accepted
      → take 480 (drop (480 * j) ((read_blocks reader s bs).out ++ rest)) ≡ opened k.enc (get_or bs j [])
  unfolding read_blocks
  out_at l s [] w rest j = λ h. absurd (omega arith)
  out_at l s (b ∷ bs) w rest zero =
      by_verdict reader s b bs (λ (t : Reading). 0 < t.accepted → take 480 (drop (480 * 0) (t.out ++ rest)) ≡ opened k.enc b)
      (λ e h.
      let o = (read_blocks reader (taken s b) bs).out in
      ap (take 480) (append_assoc (opened k.enc b) o rest) ∙ take_at (opened k.enc b) (o ++ rest) 480 (opened_length k.enc l b w.0.size w.0.bytes))
      (λ r e h. absurd (omega arith))
  out_at l s (b ∷ bs) w rest (suc j) =
      by_verdict reader s b bs (λ (t : Reading). suc j < t.accepted → take 480 (drop (480 * suc j) (t.out ++ rest)) ≡ opened k.enc (get_or bs j []))
      (λ e h.
      let o = (read_blocks reader (taken s b) bs).out in
      let p = opened k.enc b in
      let n : 480 * suc j ≡ 480 + 480 * j = omega arith in
      let d : drop (480 * suc j) ((p ++ o) ++ rest) ≡ drop (480 * j) (o ++ rest) =
      ap₂ (λ (m : ℕ) (x : List ℕ). drop m x) n (append_assoc p o rest) ∙ sym (drop-drop (480 * j) 480 (p ++ (o ++ rest)))
      ∙ ap (drop (480 * j)) (drop_at p (o ++ rest) 480 (opened_length k.enc l b w.0.size w.0.bytes)) in
      ap (take 480) d ∙ out_at l (taken s b) bs w.1 rest j (omega arith))
      (λ r e h. absurd (omega arith))

-- ---- payloads

pub met_filled : (k : Keys) (rule : Rule) → Lawful 16 k.enc → (s : Progress) (n : ℕ) (bs : List (List ℕ)) → Blocks bs → AllMet k rule s n bs → AllFilled k.enc (take n bs)
met_filled k rule l s zero bs w m = tt
met_filled k rule l s (suc n) [] w m = tt
met_filled k rule l s (suc n) (b ∷ bs) w m = (
  sym (payload_filled k l (rule s (head_of_lem b).reserved) s b w.0.size w.0.bytes m.0),
  payload_length k l (rule s (head_of_lem b).reserved) s b w.0.size w.0.bytes m.0,
  met_filled k rule l (taken s b) n bs w.1 m.1,
)

pub parts-in : (ek : BlockCipher) → Lawful 16 ek → (bs : List (List ℕ)) (rest : List ℕ) → Blocks bs → AllFilled ek bs → parts_in bs (plains ek bs ++ rest) ≡ parts ek bs
parts-in ek l [] rest w f = refl
parts-in ek l (b ∷ bs) rest w f =
    let p = opened ek b in
    let e : (p ++ plains ek bs) ++ rest ≡ p ++ (plains ek bs ++ rest) = append_assoc p (plains ek bs) rest in
    let n : (head_of_lem b).len ≤ length p = omega (arith, f.1, length-take (head_of_lem b).len p) in
    let t : take (head_of_lem b).len ((p ++ plains ek bs) ++ rest) ≡ payload ek b = ap (take (head_of_lem b).len) e ∙ take-append-le (head_of_lem b).len p (plains ek bs ++ rest) n in
    let d : drop 480 ((p ++ plains ek bs) ++ rest) ≡ plains ek bs ++ rest = ap (drop 480) e ∙ drop_at p (plains ek bs ++ rest) 480 (opened_length ek l b w.0.size w.0.bytes) in
    ap₂ ◌++◌ t (ap (parts_in bs) d ∙ parts-in ek l bs rest w.1 f.2)

pub parts_length : (ek : BlockCipher) (bs : List (List ℕ)) → AllFilled ek bs → length (parts ek bs) ≡ lengths bs
parts_length ek [] f = refl
parts_length ek (b ∷ bs) f = length-append (payload ek b) (parts ek bs) ∙ ap₂ ◌+◌ f.1 (parts_length ek bs f.2)
