-- What the code finds of a block, test after test, is what the list of tests says. Assumes nothing.
use mathlib.Core.Path.{◌≡◌, refl, sym, ap, ◌∙◌}
use mathlib.Core.Bool.{Bool, true, false, ◌&&◌, not, cond}
use mathlib.Core.List.{List, [], ◌++◌}
use Prim.Native.Nat.{ℕ}
use Rattle.std.specs.Bool.{then_some}
use Rattle.std.specs.Option.{option_or}
use Rattle.std.specs.Prelude.{Option, unwrap_or}
use borrow.Author.Tests.{eq-eqb, ne_eqb}
use lib.ListN.{length}
use Rattle.octets.specs.Blocks.{BlockCipher}
use Rattle.image_layout.specs.Layout.{head_of_lem}
use Rattle.image_layout.specs.declared.Head.{Head}
use Rattle.image_reasons.specs.declared.Reason.TheVariants.{CheckWrong, FillNotZero}
use Rattle.image_spec.specs.Sealed.{checks, fill_zero}
use Rattle.image_spec.specs.Judge.{Keys}
use Rattle.image_receiver_map.specs.Map.{bit_at, bit_put}
use Rattle.image_receiver_answer.specs.Answers.{room_for, first_told, header_tests, accepted}
use Rattle.image_receiver_answer.specs.declared.Receipt.{Receipt}
use Rattle.image_receiver_answer.specs.declared.ReceiveAnswer.{ReceiveAnswer}
use Rattle.image_receiver_answer.specs.declared.ReceiveAnswer.TheVariants.{Received, NotABlock, NoRoom, Because, AlreadyHeld}
use Rattle.image_receiver_answer.proofs.Order.{hit, miss, sooner, Refuses, header_refuses, after_tests}
use Rattle.image_receiver_block.specs.Receive.{last_tests, receive_answer, last_answer, counted_with, stored, answered_with, leaves, received_under}
use Rattle.image_receiver_block.specs.declared.BlockReceived.{BlockReceived}

-- the last two tests, each made first
module _ (ek : BlockCipher) (b map : List ℕ) (filled held : Bool) (ef : filled ≡ fill_zero ek b) (eh : held ≡ bit_at map (head_of_lem b).number) where
  pub last_by : (x y z : Option ReceiveAnswer) (a : ReceiveAnswer) → x ≡ then_some (not filled) (Because FillNotZero) → y ≡ then_some held AlreadyHeld → z ≡ option_or x y → a ≡ unwrap_or z Received → a ≡ last_answer ek b map
  unfolding last_answer first_told
  last_by x y z a ex ey ez ea = rw (ea, ez, ex, ey, ← ef, ← eh) (go filled held)
    where
      go : (f h : Bool) → unwrap_or (option_or (then_some (not f) (Because FillNotZero)) (then_some h AlreadyHeld)) Received
          ≡ cond (not f) (Because FillNotZero) (cond h AlreadyHeld Received)
      go true true = refl
      go true false = refl
      go false true = refl
      go false false = refl

-- what the code hands back, where the last answer refuses and where it accepts
module _ (ek : BlockCipher) (r : Receipt) (b store map : List ℕ) (a last : ReceiveAnswer) (ea : a ≡ last) where
  pub leaves_refused : Refuses a → (x : BlockReceived) → x ≡ answered_with a r → (x, store, map) ≡ leaves last ek r b store map
  leaves_refused f x ex =
      let g : leaves a ek r b store map ≡ (answered_with a r, store, map) = rw f in
      ap (λ (y : BlockReceived). (y, store, map)) ex ∙ sym g ∙ ap (λ (y : ReceiveAnswer). leaves y ek r b store map) ea

  pub leaves_kept : a ≡ Received → (x : BlockReceived) (y : Receipt) (s m : List ℕ) → x ≡ answered_with a y → y ≡ counted_with r (head_of_lem b).len → s ≡ stored ek b store → m ≡ bit_put map (head_of_lem b).number
      → (x, s, m) ≡ leaves last ek r b store map
  leaves_kept e x y s m ex ey es em =
      let f : accepted a ≡ true = ap accepted e in
      let g : leaves a ek r b store map ≡ (answered_with a (counted_with r (head_of_lem b).len), stored ek b store, bit_put map (head_of_lem b).number) = rw f in
      rw (ex, ey, es, em) (sym g ∙ ap (λ (z : ReceiveAnswer). leaves z ek r b store map) ea)

module _ (k : Keys) (r : Receipt) (b store map : List ℕ) where
  -- an answer that refuses leaves everything
  pub refused_by : (a : ReceiveAnswer) → a ≡ receive_answer k r b store map → Refuses a → (x : BlockReceived) → x ≡ answered_with a r → (x, store, map) ≡ received_under k r b store map
  unfolding received_under
  refused_by a ea f x ex =
      let g : leaves a k.enc r b store map ≡ (answered_with a r, store, map) = rw f in
      ap (λ (y : BlockReceived). (y, store, map)) ex ∙ sym g ∙ ap (λ (y : ReceiveAnswer). leaves y k.enc r b store map) ea

  pub answer_6 : (length b ≡ 512 → ⊥) → NotABlock ≡ receive_answer k r b store map
  unfolding receive_answer
  answer_6 n = hit _ NotABlock _ (ap not (ne_eqb (length b) 512 n))

  module _ (e1 : length b ≡ 512) where
    pub answer_4 : room_for r.count (length store) (length map) ≡ false → NoRoom ≡ receive_answer k r b store map
    unfolding receive_answer
    answer_4 e = miss _ NotABlock _ NoRoom (ap not (eq-eqb (length b) 512 e1)) (hit _ NoRoom _ (ap not e))

    module _ (e2 : room_for r.count (length store) (length map) ≡ true) where
      pub answer_14 : (k.usable && checks k.mac [] b) ≡ false → Because CheckWrong ≡ receive_answer k r b store map
      unfolding receive_answer
      answer_14 e =
          miss _ NotABlock _ (Because CheckWrong) (ap not (eq-eqb (length b) 512 e1))
          (miss _ NoRoom _ (Because CheckWrong) (ap not e2)
          (hit _ (Because CheckWrong) _ (ap not e)))

      module _ (e3 : (k.usable && checks k.mac [] b) ≡ true) where
        -- the header's tests, and then the last two
        pub answer_rest : sooner (first_told (header_tests r (head_of_lem b))) (last_answer k.enc b map) ≡ receive_answer k r b store map
        unfolding receive_answer last_answer
        answer_rest =
            sym (after_tests (header_tests r (head_of_lem b)) (last_tests k.enc b map) (header_refuses r (head_of_lem b)))
            ∙ miss _ NotABlock _ (first_told (header_tests r (head_of_lem b) ++ last_tests k.enc b map)) (ap not (eq-eqb (length b) 512 e1))
            (miss _ NoRoom _ (first_told (header_tests r (head_of_lem b) ++ last_tests k.enc b map)) (ap not e2)
            (miss _ (Because CheckWrong) _ (first_told (header_tests r (head_of_lem b) ++ last_tests k.enc b map)) (ap not e3) refl))

        module _ (h : Head) (eh : h ≡ head_of_lem b) (v : ReceiveAnswer) (ev : v ≡ first_told (header_tests r h)) where
          head_told : v ≡ first_told (header_tests r (head_of_lem b))
          head_told = ev ∙ ap (λ (x : Head). first_told (header_tests r x)) eh

          pub answer_head : Refuses v → v ≡ receive_answer k r b store map
          answer_head f = sym (rw f) ∙ ap (λ (x : ReceiveAnswer). sooner x (last_answer k.enc b map)) head_told ∙ answer_rest

          pub answer_last : v ≡ Received → last_answer k.enc b map ≡ receive_answer k r b store map
          answer_last e = ap (λ (x : ReceiveAnswer). sooner x (last_answer k.enc b map)) (sym e ∙ head_told) ∙ answer_rest

          pub kept_by : v ≡ Received → (x : BlockReceived × List ℕ × List ℕ) → x ≡ leaves (last_answer k.enc b map) k.enc r b store map → x ≡ received_under k r b store map
          unfolding received_under
          kept_by e x ex = ex ∙ ap (λ (y : ReceiveAnswer). leaves y k.enc r b store map) (answer_last e)
