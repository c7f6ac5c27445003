-- Tests asked in order. Assumes nothing.
use mathlib.Core.Path.{◌≡◌, refl, sym, ap, ◌∙◌}
use mathlib.Core.Bool.{Bool, true, false, true≢false, cond}
use mathlib.Core.List.{List, [], ◌∷◌, ◌++◌}
use borrow.Author.Tests.{ltb-true, not-false}
use lib.Dec.{ltb}
use Prim.Native.Nat.{◌<◌}
use Rattle.image_layout.specs.declared.Head.{Head}
use Rattle.image_receiver_answer.specs.Answers.{first_told, header_tests, accepted}
use Rattle.image_receiver_answer.specs.declared.Receipt.{Receipt}
use Rattle.image_receiver_answer.specs.declared.ReceiveAnswer.{ReceiveAnswer}
use Rattle.image_receiver_answer.specs.declared.ReceiveAnswer.TheVariants.{Received, NotABlock, NoRoom, Because, NotBelow, AlreadyHeld}

-- a test that holds is told
pub hit : (t : Bool) (a : ReceiveAnswer) (ts : List (Bool × ReceiveAnswer)) → t ≡ true → a ≡ first_told ((t, a) ∷ ts)
unfolding first_told
hit t a ts e = rw e

-- one that does not leaves it to the rest
pub miss : (t : Bool) (a : ReceiveAnswer) (ts : List (Bool × ReceiveAnswer)) (v : ReceiveAnswer) → t ≡ false → v ≡ first_told ts → v ≡ first_told ((t, a) ∷ ts)
unfolding first_told
miss t a ts v e f = rw e f

-- the first answer, or, where that accepts, the second
abbrev pub sooner : ReceiveAnswer → ReceiveAnswer → ReceiveAnswer
sooner a b = cond (accepted a) b a

-- an answer that refuses is not the one that accepts
abbrev pub Refuses : ReceiveAnswer → Type 0
Refuses a = accepted a ≡ false

-- every case but the first
pub refuses_else : (a : ReceiveAnswer) → (a ≡ Received → ⊥) → Refuses a
refuses_else Received h = absurd (h refl)
refuses_else NotABlock h = refl
refuses_else NoRoom h = refl
refuses_else (Because reason) h = refl
refuses_else NotBelow h = refl
refuses_else AlreadyHeld h = refl

pub refuses_first : (a b : ReceiveAnswer) → Refuses a → sooner a b ≡ a
refuses_first a b e = rw e

-- tests after tests, where every test of the first list refuses
abbrev pub AllRefuse : List (Bool × ReceiveAnswer) → Type 0
AllRefuse [] = Unit {0}
AllRefuse (t ∷ ts) = Refuses t.1 × AllRefuse ts

pub after_tests : (ts us : List (Bool × ReceiveAnswer)) → AllRefuse ts → first_told (ts ++ us) ≡ sooner (first_told ts) (first_told us)
unfolding first_told
after_tests [] us w = refl
after_tests (t ∷ ts) us w = go t.0 (after_tests ts us w.1)
  where
    go : (b : Bool) → first_told (ts ++ us) ≡ sooner (first_told ts) (first_told us)
        → cond b t.1 (first_told (ts ++ us)) ≡ sooner (cond b t.1 (first_told ts)) (first_told us)
    go true e = rw w.0
    go false e = e

-- a block that is accepted met every test
abbrev pub AllFalse : List (Bool × ReceiveAnswer) → Type 0
AllFalse [] = Unit {0}
AllFalse (t ∷ ts) = (t.0 ≡ false) × AllFalse ts

pub all_accepted : (ts : List (Bool × ReceiveAnswer)) → AllFalse ts → first_told ts ≡ Received
unfolding first_told
all_accepted [] e = refl
all_accepted (t ∷ ts) e = rw e.0 (all_accepted ts e.1)

pub all_false : (ts : List (Bool × ReceiveAnswer)) → AllRefuse ts → first_told ts ≡ Received → AllFalse ts
unfolding first_told
all_false [] w e = tt
all_false (t ∷ ts) w e = go t.0 refl e (all_false ts w.1)
  where
    go : (b : Bool) → t.0 ≡ b → cond b t.1 (first_told ts) ≡ Received → (first_told ts ≡ Received → AllFalse ts) → (t.0 ≡ false) × AllFalse ts
    go true f q r = absurd (true≢false (sym (ap accepted q) ∙ w.0))
    go false f q r = (f, r q)

-- ---- the header's

pub header_refuses : (r : Receipt) (h : Head) → AllRefuse (header_tests r h)
unfolding header_tests
header_refuses r h = (refl, (refl, (refl, (refl, (refl, (refl, tt))))))

-- a header that passes has a number below the receiver's count
pub header_below : (r : Receipt) (h : Head) → first_told (header_tests r h) ≡ Received → h.number < r.count
unfolding header_tests
header_below r h e =
    let a = all_false (header_tests r h) (header_refuses r h) e in
    ltb-true h.number r.count (not-false (ltb h.number r.count) a.1.1.1.0)
