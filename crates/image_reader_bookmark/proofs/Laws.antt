-- From the parts of the calls to what they are to give. Assumes nothing.
use mathlib.Core.Path.{◌≡◌, refl, sym, ap, ap₂, subst, ◌∙◌}
use mathlib.Core.Bool.{Bool, true, false, ◌&&◌, cond}
use mathlib.Core.List.{List, [], ◌++◌, append-nil}
use Prim.Native.Nat.{ℕ, ◌+◌, ◌-◌, ◌≤◌}
use native.Mathlib.Omega.{arith}
use lib.ListN.{length, take, drop, replicate, length-append, length-drop, length-replicate}
use lib.Seq.{take_all, take-length, take-append_seam, drop-append-add}
use Rattle.octets.specs.Octets.{same}
use Rattle.aes_sbox.specs.Sbox.{s_box}
use Rattle.aes_schedule.specs.Schedule.{schedule_of}
use Rattle.aes_schedule.specs.declared.KeyAnswer.{KeyAnswer}
use Rattle.aes_schedule.specs.declared.KeyAnswer.TheVariants.{Taken}
use Rattle.aes_spec.specs.Cipher.{standard}
use Rattle.cmac_spec.specs.Cmac.{cmac}
use Rattle.octets_slice.specs.Slices.{copied}
use Rattle.octets_slice.proofs.Laws.{copied_fits, drop_zeros}
use Rattle.image_spec.specs.Sealed.{Mac}
use Rattle.image_spec.specs.KeyPair.{usable, rounds_of, pair_of, pair_answer}
use Rattle.image_spec.specs.declared.KeyPair.{KeyPair}
use Rattle.image_spec.proofs.Pair.{pair_taken, pair_refused}
use Rattle.image_bookmark.specs.Bookmark.{front_of_lem}
use Rattle.image_reader.specs.Calls.{start_of, keys_of}
use Rattle.image_reader.specs.declared.Reader.{Reader}
use Rattle.image_reader_bookmark.specs.Calls.{bookmark_under, save_of, is_bookmark, resumed_with, refused_with, resume_of}
use Rattle.image_reader_bookmark.specs.declared.ReadResumed.{ReadResumed}
use Rattle.image_reader_bookmark.specs.declared.ResumeAnswer.TheVariants.{KeyLength, NotABookmark}

-- ---- saving

module _ (r : Reader) (n : ℕ) where
  pub save_none : usable (rounds_of r.keys) ≡ false → replicate 56 0 ≡ save_of r n
  unfolding save_of
  save_none e = rw e

  pub save_by : usable (rounds_of r.keys) ≡ true → (f c b : List ℕ) → f ≡ front_of_lem r.progress n → c ≡ cmac (standard r.keys.chk.words r.keys.chk.rounds) f → b ≡ f ++ c
      → b ≡ save_of r n
  unfolding save_of
  save_by u f c b ef ec e = e ∙ rw (ec, ef, u)

-- a list put behind another, over zeros, of which m are left
next_part : (n m at : ℕ) (a s : List ℕ) → length a ≡ at → length s + m ≡ n → copied s at (a ++ replicate n 0) ≡ a ++ s ++ replicate m 0
next_part n m at a s ea h =
    let e : n - length s ≡ m = omega arith in
    ap (λ (k : ℕ). copied s k (a ++ replicate n 0)) (sym ea)
    ∙ copied_fits s (length a) (a ++ replicate n 0) (omega (arith, length-append a (replicate n 0), length-replicate {A = ℕ} n 0))
    ∙ ap₂ ◌++◌ (ap₂ ◌++◌ (take-append_seam a (replicate n 0)) (take-length s)) (drop-append-add a (replicate n 0) (length s) ∙ drop_zeros (length s) n ∙ ap (λ (k : ℕ). replicate k 0) e)

pub joined_by : (f c b1 b2 : List ℕ) → length f ≡ 40 → length c ≡ 16 → b1 ≡ copied f 0 (replicate 56 0) → b2 ≡ copied c 40 b1 → b2 ≡ f ++ c
joined_by f c b1 b2 lf lc e1 e2 =
    e2 ∙ ap (copied c 40) (e1 ∙ next_part 56 16 0 [] f refl (omega arith)) ∙ next_part 16 0 40 f c lf (omega arith) ∙ append-nil (f ++ c)

-- ---- resuming

pub bookmark_by : (mac : Mac) (b : List ℕ) (made : List ℕ) (n : ℕ) → made ≡ mac (take 40 b) → length b ≤ 40 + n → same made (take n (drop 40 b)) ≡ is_bookmark mac b
bookmark_by mac b made n e h = ap₂ same e (take_all n (drop 40 b) (omega (arith, length-drop 40 b, h)))

module _ (ekey ckey b : List ℕ) (a : KeyAnswer) (ea : a ≡ pair_answer (schedule_of s_box ekey) (schedule_of s_box ckey)) where
  abbrev made : KeyPair
  made = pair_of (schedule_of s_box ekey) (schedule_of s_box ckey)

  pub resume_no_key : (a ≡ Taken → ⊥) → (x : ReadResumed) → x ≡ refused_with KeyLength → x ≡ resume_of ekey ckey b
  unfolding resume_of start_of
  resume_no_key h x ex = ex ∙ sym (rw (pair_refused (schedule_of s_box ekey) (schedule_of s_box ckey) a ea h))

  module _ (h : a ≡ Taken) (keys : KeyPair) (ek : keys ≡ made) where
    pub resume_no_bookmark : is_bookmark (cmac (standard keys.chk.words keys.chk.rounds)) b ≡ false → (x : ReadResumed) → x ≡ refused_with NotABookmark → x ≡ resume_of ekey ckey b
    unfolding resume_of start_of
    resume_no_bookmark w x ex =
        let v = subst (λ (k : KeyPair). is_bookmark (cmac (standard k.chk.words k.chk.rounds)) b ≡ false) ek w in
        ex ∙ sym (rw (pair_taken (schedule_of s_box ekey) (schedule_of s_box ckey) a ea h, v))

    pub resume_by : is_bookmark (cmac (standard keys.chk.words keys.chk.rounds)) b ≡ true → (x : ReadResumed) → x ≡ resumed_with keys b → x ≡ resume_of ekey ckey b
    unfolding resume_of start_of
    resume_by w x ex =
        let v = subst (λ (k : KeyPair). is_bookmark (cmac (standard k.chk.words k.chk.rounds)) b ≡ true) ek w in
        ex ∙ ap (λ (k : KeyPair). resumed_with k b) ek ∙ sym (rw (pair_taken (schedule_of s_box ekey) (schedule_of s_box ckey) a ea h, v))
