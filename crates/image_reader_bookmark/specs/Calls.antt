-- The calls: a reader saved in a bookmark, and resumed from one (docs/IMAGE.md). Assumes nothing: these are definitions.
use Rattle.std.specs.Prelude.{Bool, cond, ℕ, List, ◌++◌, eqb, take, drop, replicate}
use Rattle.octets.specs.Octets.{same}
use Rattle.aes_schedule.specs.Schedule.{key_number}
use Rattle.image_spec.specs.Sealed.{Mac}
use Rattle.image_spec.specs.Judge.{fresh}
use Rattle.image_spec.specs.KeyPair.{no_keys}
use Rattle.image_spec.specs.declared.KeyPair.{KeyPair}
use Rattle.image_bookmark.specs.Bookmark.{front_of_lem, progress_in, bytes_in, check_from, bookmark_size}
use Rattle.image_reader.specs.Calls.{start_of, keys_of}
use Rattle.image_reader.specs.declared.Reader.{Reader}
use Rattle.image_reader.specs.declared.ReadStarted.{ReadStarted}
use Rattle.image_reader_bookmark.specs.declared.ReadResumed.{ReadResumed}
use Rattle.image_reader_bookmark.specs.declared.ResumeAnswer.{ResumeAnswer}
use Rattle.image_reader_bookmark.specs.declared.ResumeAnswer.TheVariants.{Resumed, KeyLength, NotABookmark}

abbrev pub resume_number : ResumeAnswer → ℕ
resume_number Resumed = 0
resume_number KeyLength = 1
resume_number NotABookmark = 25

-- ---- saving

-- forty bytes, and their check
abbrev pub bookmark_under : Mac → (front : List ℕ) → List ℕ
bookmark_under mac front = front ++ mac front

-- zeros where no keys can have given the reader's schedules
unfoldable pub save_of : Reader → (bytes : ℕ) → List ℕ
save_of r n = cond (keys_of r).usable (bookmark_under (keys_of r).mac (front_of_lem r.progress n)) (replicate bookmark_size 0)

-- ---- resuming

-- all sixteen bytes of the check
abbrev pub is_bookmark : Mac → List ℕ → Bool
is_bookmark mac b = same (mac (take check_from b)) (drop check_from b)

-- the reader under these schedules, as far as the bookmark says
abbrev pub resumed_with : KeyPair → List ℕ → ReadResumed
resumed_with keys b = record { answer = Resumed; reader = record { keys = keys; progress = progress_in b }; bytes = bytes_in b }

-- the reader as it was started
abbrev pub resumed_at : Reader → List ℕ → ReadResumed
resumed_at r b = resumed_with r.keys b

abbrev pub refused_with : ResumeAnswer → ReadResumed
refused_with a = record { answer = a; reader = record { keys = no_keys; progress = fresh }; bytes = 0 }

-- 1, then 25
abbrev pub resumed_from : ReadStarted → List ℕ → ReadResumed
resumed_from s b =
    cond (eqb (key_number s.answer) 0)
    (cond (is_bookmark (keys_of s.reader).mac b) (resumed_at s.reader b) (refused_with NotABookmark))
    (refused_with KeyLength)

unfoldable pub resume_of : (ekey ckey b : List ℕ) → ReadResumed
resume_of ekey ckey b = resumed_from (start_of ekey ckey) b
