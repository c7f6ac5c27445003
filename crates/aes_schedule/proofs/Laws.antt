-- The schedule under two substitutions that agree on bytes. Assumes nothing.
use mathlib.Core.Path.{◌≡◌, refl, ap₂, ◌∙◌}
use mathlib.Core.Bool.{Bool, true, false, cond}
use mathlib.Core.List.{List}
use Prim.Native.Nat.{ℕ, ◌+◌, ◌*◌, ◌≤◌, ◌<◌}
use native.Mathlib.Omega.{arith}
use borrow.Author.Tests.{eqb-true}
use lib.Dec.{eqb}
use lib.ListN.{length, replicate}
use Rattle.octets.specs.Octets.{tabulate, pad_to, entry}
use Rattle.octets.proofs.Fill.{length_pad_to}
use Rattle.aes_sbox.proofs.Laws.{entry_table}
use Rattle.aes_expand.proofs.Laws.{length_expansion, expansion_same, expanded-over, over_zeros}
use Rattle.aes_expand.specs.Expansion.{key_expansion, expanded_over}
use Rattle.aes_schedule.specs.declared.Expanded.{Expanded}
use Rattle.aes_schedule.specs.declared.KeyAnswer.{KeyAnswer}
use Rattle.aes_schedule.specs.declared.KeySchedule.{KeySchedule}
use Rattle.aes_schedule.specs.declared.KeySize.{KeySize}
use Rattle.aes_schedule.specs.Schedule.{taken, refused, schedule_of, key_size, answer_of}

module _ (f g : ℕ → ℕ) (same : (k : ℕ) → k < 256 → f k ≡ g k) where
  taken_same : (key : List ℕ) (nk nr : ℕ) → taken f key nk nr ≡ taken g key nk nr
  unfolding taken
  taken_same key nk nr = rw (expansion_same f g same key nk (4 * (nr + 1)))

  pub schedule_same : (key : List ℕ) → schedule_of f key ≡ schedule_of g key
  unfolding schedule_of
  schedule_same key = rw (taken_same key 4 10, taken_same key 6 12, taken_same key 8 14)

-- the schedule over a table that is lent is the schedule over what the table holds
pub schedule_table : (f : ℕ → ℕ) (key : List ℕ) → schedule_of (entry (tabulate 256 f)) key ≡ schedule_of f key
schedule_table f = schedule_same (entry (tabulate 256 f)) f (entry_table f)

-- ---- every length of a key at once

abbrev size : ℕ → ℕ → KeySize
size nk nr = record { words = nk; rounds = nr }

pub rounds_lt : (n : ℕ) → (key_size n).rounds < 15
rounds_lt n = on (eqb n 16) (eqb n 24) (eqb n 32)
  where
    on : (a b c : Bool)
        → (cond a (size 4 10) (cond b (size 6 12) (cond c (size 8 14) (size 0 0)))).rounds < 15
    on true b c = omega arith
    on false true c = omega arith
    on false false true = omega arith
    on false false false = omega arith

module _ (sub : ℕ → ℕ) (key : List ℕ) where
  abbrev put : ℕ → ℕ → List ℕ
  put nk nr = expanded_over sub key nk (4 * (nr + 1)) (replicate 60 0)

  put_taken : (n nk nr : ℕ) → length key ≡ n → 0 < nk → nk * 4 ≤ n → 4 * (nr + 1) ≤ 60 → put nk nr ≡ (taken sub key nk nr).schedule.words
  unfolding taken
  put_taken n nk nr e h k l = expanded-over sub key nk (4 * (nr + 1)) (replicate 60 0) h (omega arith) l ∙ over_zeros 60 (key_expansion sub key nk (4 * (nr + 1)))

  -- the words put over zeros, the rounds and the answer are those of the schedule
  pub record Put : Type 0 where
    pub same_words : put (key_size (length key)).words (key_size (length key)).rounds ≡ (schedule_of sub key).schedule.words
    pub same_rounds : (key_size (length key)).rounds ≡ (schedule_of sub key).schedule.rounds
    pub same_answer : answer_of (schedule_of sub key).schedule.rounds ≡ (schedule_of sub key).answer

  pub put_schedule : Put
  unfolding schedule_of taken refused expanded_over
  put_schedule = on (eqb (length key) 16) (eqb (length key) 24) (eqb (length key) 32) refl refl refl
    where
      on : (a b c : Bool) → eqb (length key) 16 ≡ a → eqb (length key) 24 ≡ b → eqb (length key) 32 ≡ c → Put
      on true b c p q r = record {
        same_words = rw p (put_taken 16 4 10 (eqb-true (length key) 16 p) (omega arith) (omega arith) (omega arith));
        same_rounds = rw p;
        same_answer = rw p;
      }
      on false true c p q r = record {
        same_words = rw (p, q) (put_taken 24 6 12 (eqb-true (length key) 24 q) (omega arith) (omega arith) (omega arith));
        same_rounds = rw (p, q);
        same_answer = rw (p, q);
      }
      on false false true p q r = record {
        same_words = rw (p, q, r) (put_taken 32 8 14 (eqb-true (length key) 32 r) (omega arith) (omega arith) (omega arith));
        same_rounds = rw (p, q, r);
        same_answer = rw (p, q, r);
      }
      on false false false p q r = record { same_words = rw (p, q, r); same_rounds = rw (p, q, r); same_answer = rw (p, q, r) }

-- an answer and a schedule as one value
pub expanded : {x : Expanded} {a : KeyAnswer} {s : KeySchedule} → (a ≡ x.answer) × (s ≡ x.schedule) → ◌≡◌ {A = Expanded} (record { answer = a; schedule = s }) x
expanded e = ap₂ (λ (a : KeyAnswer) (s : KeySchedule). record { answer = a; schedule = s }) e.0 e.1

-- the words of every schedule are 60
pub schedule_length : (sub : ℕ → ℕ) (key : List ℕ) → length (schedule_of sub key).schedule.words ≡ 60
unfolding schedule_of taken refused
schedule_length sub key = on (eqb (length key) 16) (eqb (length key) 24) (eqb (length key) 32)
  where
    sixty : (nk n : ℕ) → n ≤ 60 → length (pad_to 60 (key_expansion sub key nk n)) ≡ 60
    sixty nk n h = length_pad_to 60 (key_expansion sub key nk n) (rw (length_expansion sub key nk n) h)

    on : (a b c : Bool)
        → length (cond a (taken sub key 4 10) (cond b (taken sub key 6 12) (cond c (taken sub key 8 14) refused))).schedule.words ≡ 60
    on true b c = sixty 4 44 (omega arith)
    on false true c = sixty 6 52 (omega arith)
    on false false true = sixty 8 60 (omega arith)
    on false false false = refl
