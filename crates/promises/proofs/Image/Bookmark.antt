-- Bookmarks: a reader saved and resumed is the very reader, so a transfer with saves and resumes reads as one without; what is accepted as a
-- bookmark was saved under that check key; damage is refused. Then demand 1 for the calls, and that each answers as told. Assumes nothing.
use mathlib.Core.Path.{◌≡◌, refl, sym, ap, ap₂, subst, ◌∙◌}
use mathlib.Core.Bool.{true, false}
use mathlib.Core.List.{List, [], ◌∷◌, ◌++◌}
use Prim.Native.Nat.{ℕ, ◌<◌}
use native.Mathlib.Omega.{arith}
use lib.ListN.{length, take, drop, replicate, take-append-drop}
use lib.Seq.{length-take-le}
use Rattle.octets.specs.Octets.{Bytes, Octets}
use Rattle.octets.proofs.Blocks.{take_bytes, zeros_bytes}
use Rattle.aes_spec.specs.Cipher.{aes_of}
use Rattle.aes_spec.proofs.Aes.{key_lawful}
use Rattle.cmac_spec.specs.Cmac.{cmac, SameOutside}
use Rattle.cmac_spec.proofs.OnePiece.{one_piece}
use Rattle.image_progress.specs.declared.Progress.{Progress}
use Rattle.image_spec.specs.Judge.{fresh}
use Rattle.image_bookmark.specs.Bookmark.{front_of_lem, progress_in, bytes_in}
use Rattle.image_bookmark.proofs.Reading.{Wide, front_read}
use Rattle.image_reader.specs.Calls.{start_of, keys_of, turn_of}
use Rattle.image_reader.specs.declared.Reader.{Reader}
use Rattle.image_reader.specs.declared.Turn.{Turn}
use Rattle.image_reader_bookmark.specs.Calls.{resume_number, save_of, resumed_at, refused_with, resume_of}
use Rattle.image_reader_bookmark.specs.declared.ReadResumed.{ReadResumed}
use Rattle.image_reader_bookmark.specs.declared.ResumeAnswer.{ResumeAnswer}
use Rattle.image_reader_bookmark.specs.declared.ResumeAnswer.TheVariants.{Resumed, KeyLength, NotABookmark}
use Rattle.promises.proofs.Aes.Keys.{KeyTaken}
use Rattle.promises.proofs.Image.Words.{reader_of, Lending, turn_by}
use Rattle.promises.proofs.Lemmas.ImageCalls.{fresh_start}
use Rattle.promises.proofs.Lemmas.Bookmark.{resume_told, save_is, undone, turn_wide}
use Rattle.image_bookmark.proofs.front_of.Reads as front_of
use Rattle.image_bookmark.proofs.progress_in.Reads as progress-in
use Rattle.image_bookmark.proofs.bytes_in.Reads as bytes-in
use Rattle.image_reader_bookmark.proofs.ResumeAnswer.number.Reads as resume-number
use Rattle.image_reader_bookmark.proofs.read_save.Reads as read_save
use Rattle.image_reader_bookmark.proofs.read_resume.Reads as read_resume

-- ---- the words

-- the last 16 bytes are the check of the first 40 under the check key
abbrev pub Carries : (ckey b : List ℕ) → Type 0
Carries ckey b = cmac (aes_of ckey) (take 40 b) ≡ drop 40 b

-- what each answer of resuming says: 1, then 25
abbrev pub ResumeSays : (ekey ckey b : List ℕ) → ResumeAnswer → Type 0
ResumeSays ekey ckey b Resumed = KeyTaken ekey × KeyTaken ckey × Carries ckey b
ResumeSays ekey ckey b KeyLength = KeyTaken ekey → KeyTaken ckey → ⊥
ResumeSays ekey ckey b NotABookmark = KeyTaken ekey × KeyTaken ckey × (Carries ckey b → ⊥)

-- what a transfer does with its reader: a turn, or a save with a number of payload bytes, the reader forgotten, and a resume
pub data Step : Type 0 where
  reads : Lending → Step
  rests : (bytes : ℕ) → Step

-- lent bytes are bytes, and a number saved fits its place
abbrev pub Plain : List Step → Type 0
Plain [] = Unit {0}
Plain (reads l ∷ xs) = Bytes l.lent × Plain xs
Plain (rests n ∷ xs) = (n < 18446744073709551616) × Plain xs

-- the turns alone
abbrev pub turns_of : List Step → List Lending
turns_of [] = []
turns_of (reads l ∷ xs) = l ∷ turns_of xs
turns_of (rests n ∷ xs) = turns_of xs

-- what the turns give, answer and output of each
abbrev pub results : Reader → List Lending → List (Turn × List ℕ)
results r [] = []
results r (l ∷ ls) = turn_by r l ∷ results (turn_by r l).0.reader ls

-- the same with every save and resume, under these keys
abbrev pub results_over : (ekey ckey : List ℕ) → Reader → List Step → List (Turn × List ℕ)
results_over ekey ckey r [] = []
results_over ekey ckey r (reads l ∷ xs) = turn_by r l ∷ results_over ekey ckey (turn_by r l).0.reader xs
results_over ekey ckey r (rests n ∷ xs) = results_over ekey ckey (resume_of ekey ckey (save_of r n)).reader xs

-- ---- resuming undoes saving

-- the reader, in whatever state, and the number of bytes come back, under the keys that started it
pub resume_undoes_save : (ekey ckey : List ℕ) → KeyTaken ekey → KeyTaken ckey → (s : Progress) → Wide s → (n : ℕ) → n < 18446744073709551616
    → resume_of ekey ckey (save_of (reader_of ekey ckey s) n) ≡ record { answer = Resumed; reader = reader_of ekey ckey s; bytes = n }
resume_undoes_save ekey ckey te tc s w n h = undone ekey ckey te tc s w n h

-- so any number of saves and resumes between turns changes nothing in what they answer and hand out
pub resumed_reads_on : (ekey ckey : List ℕ) → KeyTaken ekey → KeyTaken ckey → (s : Progress) → Wide s → (xs : List Step) → Plain xs
    → results_over ekey ckey (reader_of ekey ckey s) xs ≡ results (reader_of ekey ckey s) (turns_of xs)
unfolding turn_of
resumed_reads_on ekey ckey te tc s w [] p = refl
resumed_reads_on ekey ckey te tc s w (reads l ∷ xs) p =
    let r = reader_of ekey ckey s in
    ap (λ (y : List (Turn × List ℕ)). turn_by r l ∷ y)
    (resumed_reads_on ekey ckey te tc (turn_by r l).0.reader.progress (turn_wide r l.lent l.asked l.out p.0 w) xs p.1)
resumed_reads_on ekey ckey te tc s w (rests n ∷ xs) p =
    ap (λ (x : ReadResumed). results_over ekey ckey x.reader xs) (undone ekey ckey te tc s w n p.0) ∙ resumed_reads_on ekey ckey te tc s w xs p.1

-- from a start on
pub resumed_reads_on_from_a_start : (ekey ckey : List ℕ) → KeyTaken ekey → KeyTaken ckey → (xs : List Step) → Plain xs
    → results_over ekey ckey (start_of ekey ckey).reader xs ≡ results (start_of ekey ckey).reader (turns_of xs)
resumed_reads_on_from_a_start ekey ckey te tc xs p =
    let f = fresh_start ekey ckey in
    subst (λ (s : Progress). results_over ekey ckey (reader_of ekey ckey s) xs ≡ results (reader_of ekey ckey s) (turns_of xs)) (sym f) (resumed_reads_on ekey ckey te tc fresh wide xs p)
  where
    wide : Wide fresh
    wide = record { next_wide = omega arith; count_wide = omega arith; release_wide = omega arith; edition_wide = omega arith; last_octets = record { size = refl; bytes = zeros_bytes 16 } }

-- ---- what is accepted was saved

-- 1 where a key is not taken, else 25 where the check is not that of the bytes, else 0
pub resume_answer_as_told : (ekey ckey b : List ℕ) → ResumeSays ekey ckey b (resume_of ekey ckey b).answer
resume_answer_as_told ekey ckey b =
    resume_told ekey ckey b (λ (x : ReadResumed). ResumeSays ekey ckey b x.answer) (λ te tc e. (te, tc, e)) (λ n. n) (λ te tc n. (te, tc, n))

accepted : (ekey ckey b : List ℕ) → resume_number (resume_of ekey ckey b).answer ≡ 0 → KeyTaken ekey × KeyTaken ckey × Carries ckey b
accepted ekey ckey b =
    resume_told ekey ckey b (λ (x : ReadResumed). resume_number x.answer ≡ 0 → KeyTaken ekey × KeyTaken ckey × Carries ckey b) (λ te tc e z. (te, tc, e)) (λ n z. absurd (omega arith))
    (λ te tc n z. absurd (omega arith))

pub resumes : (ekey ckey b : List ℕ) → KeyTaken ekey → KeyTaken ckey → Carries ckey b → resume_of ekey ckey b ≡ resumed_at (start_of ekey ckey).reader b
resumes ekey ckey b te tc e =
    resume_told ekey ckey b (λ (x : ReadResumed). x ≡ resumed_at (start_of ekey ckey).reader b) (λ te tc e. refl) (λ n. absurd (n te tc)) (λ te tc n. absurd (n e))

-- refused, it gives zeros
pub refused_resume_gives_zeros : (ekey ckey b : List ℕ) → (resume_number (resume_of ekey ckey b).answer ≡ 0 → ⊥)
    → ((resume_of ekey ckey b).bytes ≡ 0)
    × ((resume_of ekey ckey b).reader ≡ record {
      keys = record { enc = record { words = replicate 60 0; rounds = 0 }; chk = record { words = replicate 60 0; rounds = 0 } };
      progress = record { next = 0; count = 0; release = 0; edition = 0; last = replicate 16 0 };
    })
refused_resume_gives_zeros ekey ckey b =
    resume_told ekey ckey b (λ (x : ReadResumed). (resume_number x.answer ≡ 0 → ⊥) → (x.bytes ≡ 0) × (x.reader ≡ none)) (λ te tc e n. absurd (n refl)) (λ k n. (refl, refl))
    (λ te tc m n. (refl, refl))
  where
    none : Reader
    none = record {
      keys = record { enc = record { words = replicate 60 0; rounds = 0 }; chk = record { words = replicate 60 0; rounds = 0 } };
      progress = record { next = 0; count = 0; release = 0; edition = 0; last = replicate 16 0 };
    }

-- a bookmark is accepted only if a save gave it, of some state and number under the check key: those that stand in it
pub accepted_was_saved : (ekey ckey b : List ℕ) → Octets 56 b → resume_number (resume_of ekey ckey b).answer ≡ 0
    → save_of (reader_of ekey ckey (progress_in b)) (bytes_in b) ≡ b
accepted_was_saved ekey ckey b o z =
    let a = accepted ekey ckey b z in
    save_is ekey ckey a.0 a.1 (progress_in b) (bytes_in b) ∙ ap (λ (x : List ℕ). x ++ cmac (aes_of ckey) x) (front_read b o) ∙ ap (λ (x : List ℕ). take 40 b ++ x) a.2 ∙ take-append-drop 40 b

-- and it is accepted if one gave it
pub saved_is_accepted : (ekey ckey : List ℕ) → KeyTaken ekey → KeyTaken ckey → (s : Progress) → Wide s → (n : ℕ) → n < 18446744073709551616
    → resume_number (resume_of ekey ckey (save_of (reader_of ekey ckey s) n)).answer ≡ 0
saved_is_accepted ekey ckey te tc s w n h = ap (λ (x : ReadResumed). resume_number x.answer) (undone ekey ckey te tc s w n h)

-- zeros, as flash may hold, are a bookmark only where the check of forty zeros is sixteen zeros
pub zeros_are_no_bookmark : (ekey ckey : List ℕ) → resume_number (resume_of ekey ckey (replicate 56 0)).answer ≡ 0 → cmac (aes_of ckey) (replicate 40 0) ≡ replicate 16 0
zeros_are_no_bookmark ekey ckey z = (accepted ekey ckey (replicate 56 0) z).2

-- ---- damage

-- what is a bookmark except inside one piece of 16 bytes of the 40 that are checked, or except inside its check, is refused with 25
module _ (ekey ckey b : List ℕ) (o : Octets 56 b) (taken : resume_number (resume_of ekey ckey b).answer ≡ 0) (d : List ℕ) (od : Octets 56 d) (differs : d ≡ b → ⊥) where
  joined : take 40 d ≡ take 40 b → drop 40 d ≡ drop 40 b → d ≡ b
  joined e f = sym (take-append-drop 40 d) ∙ ap₂ ◌++◌ e f ∙ take-append-drop 40 b

  refused : (Carries ckey d → ⊥) → resume_of ekey ckey d ≡ refused_with NotABookmark
  refused n =
      let a = accepted ekey ckey b taken in
      resume_told ekey ckey d (λ (x : ReadResumed). x ≡ refused_with NotABookmark) (λ te tc e. absurd (n e)) (λ k. absurd (k a.0 a.1)) (λ te tc m. refl)

  pub damaged_bytes_are_refused : (i : ℕ) → SameOutside i (take 40 d) (take 40 b) → drop 40 d ≡ drop 40 b → resume_of ekey ckey d ≡ refused_with NotABookmark
  damaged_bytes_are_refused i q f =
      let a = accepted ekey ckey b taken in
      let l : length (take 40 d) ≡ length (take 40 b) = length-take-le 40 d (omega (arith, od.size)) ∙ sym (length-take-le 40 b (omega (arith, o.size))) in
      refused (λ e. differs (joined (one_piece (aes_of ckey) (key_lawful ckey a.1) i (take 40 d) (take 40 b) (take_bytes 40 d od.bytes) (take_bytes 40 b o.bytes) l q (e ∙ f ∙ sym a.2)) f))

  pub damaged_check_is_refused : take 40 d ≡ take 40 b → resume_of ekey ckey d ≡ refused_with NotABookmark
  damaged_check_is_refused e = let a = accepted ekey ckey b taken in refused (λ q. differs (joined e (sym q ∙ ap (cmac (aes_of ckey)) e ∙ a.2)))

-- ---- demand 1: the bytes of a bookmark

pub front_of_asks_nothing : (κs : _) (a : _) → front_of.Asked κs a
front_of_asks_nothing κs a = tt

pub front_of_determined : (κs : _) (a : _) (r r' : _) (s s' : _) → front_of.Post κs a r s → front_of.Post κs a r' s' → r ≡ r'
front_of_determined κs a r r' s s' p q = p ∙ sym q

pub progress_in_asks_nothing : (κs : _) (a : _) → progress-in.Asked κs a
progress_in_asks_nothing κs a = tt

pub progress_in_determined : (κs : _) (a : _) (r r' : _) (s s' : _) → progress-in.Post κs a r s → progress-in.Post κs a r' s' → r ≡ r'
progress_in_determined κs a r r' s s' p q = p ∙ sym q

pub bytes_in_asks_nothing : (κs : _) (a : _) → bytes-in.Asked κs a
bytes_in_asks_nothing κs a = tt

pub bytes_in_determined : (κs : _) (a : _) (r r' : _) (s s' : _) → bytes-in.Post κs a r s → bytes-in.Post κs a r' s' → r ≡ r'
bytes_in_determined κs a r r' s s' p q = p ∙ sym q

pub resume_number_asks_nothing : (κs : _) (a : _) → resume-number.Asked κs a
resume_number_asks_nothing κs a = tt

pub resume_number_determined : (κs : _) (a : _) (r r' : _) (s s' : _) → resume-number.Post κs a r s → resume-number.Post κs a r' s' → r ≡ r'
resume_number_determined κs a r r' s s' p q = p ∙ sym q

-- ---- demand 1: the calls

pub read_save_asks_nothing : (κs : _) (a : _) → read_save.Asked κs a
read_save_asks_nothing κs a = tt

pub read_save_determined : (κs : _) (a : _) (r r' : _) (s s' : _) → read_save.Post κs a r s → read_save.Post κs a r' s' → r ≡ r'
read_save_determined κs a r r' s s' p q = p ∙ sym q

pub read_resume_asks_nothing : (κs : _) (a : _) → read_resume.Asked κs a
read_resume_asks_nothing κs a = tt

pub read_resume_determined : (κs : _) (a : _) (r r' : _) (s s' : _) → read_resume.Post κs a r s → read_resume.Post κs a r' s' → r ≡ r'
read_resume_determined κs a r r' s s' p q = p ∙ sym q

-- a refused resume has zeros beside its number
pub read_resume_refused_gives_zeros : (κs : _) (a : _) (r : _) (s : _) → read_resume.Post κs a r s → (resume_number r.answer ≡ 0 → ⊥)
    → (r.bytes ≡ 0)
    × (r.reader ≡ record {
      keys = record { enc = record { words = replicate 60 0; rounds = 0 }; chk = record { words = replicate 60 0; rounds = 0 } };
      progress = record { next = 0; count = 0; release = 0; edition = 0; last = replicate 16 0 };
    })
read_resume_refused_gives_zeros κs a r s p n =
    let z = refused_resume_gives_zeros a.0.now a.1.0.now a.1.1.0 (λ e. n (ap (λ (x : ReadResumed). resume_number x.answer) p ∙ e)) in
    (ap (λ (x : ReadResumed). x.bytes) p ∙ z.0, ap (λ (x : ReadResumed). x.reader) p ∙ z.1)

-- ---- demand 2: each call does as told

-- a save gives the forty bytes and their check, where keys can have given both schedules; else zeros
pub read_save_as_told : (κs : _) (a : _) (r : _) (s : _) → read_save.Post κs a r s
    → ((keys_of a.0).usable ≡ true → r ≡ front_of_lem a.0.progress a.1.0 ++ (keys_of a.0).mac (front_of_lem a.0.progress a.1.0))
    × ((keys_of a.0).usable ≡ false → r ≡ replicate 56 0)
unfolding save_of
read_save_as_told κs a r s p = (λ e. p ∙ rw e, λ e. p ∙ rw e)

pub read_resume_as_told : (κs : _) (a : _) (r : _) (s : _) → read_resume.Post κs a r s → ResumeSays a.0.now a.1.0.now a.1.1.0 r.answer
read_resume_as_told κs a r s p =
    subst (λ (x : ReadResumed). ResumeSays a.0.now a.1.0.now a.1.1.0 x.answer) (sym p) (resume_answer_as_told a.0.now a.1.0.now a.1.1.0)

pub read_resume_done : (κs : _) (a : _) (r : _) (s : _) → read_resume.Post κs a r s → KeyTaken a.0.now → KeyTaken a.1.0.now → Carries a.1.0.now a.1.1.0
    → (resume_number r.answer ≡ 0) × (r.bytes ≡ bytes_in a.1.1.0) × (r.reader ≡ reader_of a.0.now a.1.0.now (progress_in a.1.1.0))
read_resume_done κs a r s p te tc e =
    let d = p ∙ resumes a.0.now a.1.0.now a.1.1.0 te tc e in
    (ap (λ (x : ReadResumed). resume_number x.answer) d, ap (λ (x : ReadResumed). x.bytes) d, ap (λ (x : ReadResumed). x.reader) d)

-- ---- demand 3: of the two calls, the second undoes the first

pub read_resume_undoes_read_save : (κs : _) (a : _) (r : _) (s : _) → read_save.Post κs a r s → (κs' : _) (a' : _) (r' : _) (s' : _) → read_resume.Post κs' a' r' s'
    → KeyTaken a'.0.now → KeyTaken a'.1.0.now → (t : Progress) → Wide t → a.0 ≡ reader_of a'.0.now a'.1.0.now t → a.1.0 < 18446744073709551616 → a'.1.1.0 ≡ r
    → r' ≡ record { answer = Resumed; reader = a.0; bytes = a.1.0 }
read_resume_undoes_read_save κs a r s p κs' a' r' s' q te tc t w e h f =
    let ekey = a'.0.now in
    let ckey = a'.1.0.now in
    q ∙ ap (resume_of ekey ckey) (f ∙ p ∙ ap (λ (x : Reader). save_of x a.1.0) e) ∙ undone ekey ckey te tc t w a.1.0 h
    ∙ ap (λ (x : Reader). record { answer = Resumed; reader = x; bytes = a.1.0 }) (sym e)
