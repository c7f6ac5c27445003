use mathlib.Core.Path.{◌≡◌, ap, ap₂, ◌∙◌}
use mathlib.Core.List.{List}
use Prim.Native.Nat.{ℕ, ◌+◌, ◌*◌}
use native.Mathlib.Omega.{arith}
use lib.ListN.{length, replicate}
use Rattle.octets.specs.Octets.{entry}
use Rattle.aes_sbox.specs.Sbox.{s_box}
use Rattle.aes_expand.specs.Expansion.{expanded_over}
use Rattle.aes_schedule.specs.declared.Expanded.{Expanded}
use Rattle.aes_schedule.specs.declared.KeySchedule.{KeySchedule}
use Rattle.aes_schedule.specs.declared.KeySize.{KeySize}
use Rattle.aes_schedule.specs.Schedule.{schedule_of, key_size, answer_of}
use Rattle.aes_schedule.proofs.Laws.{schedule_table, rounds_lt, put_schedule}
use Rattle.aes_schedule.proofs.KeySchedule.expand.Goals as goal

pub returns : goal.returns
returns c = let key = c.args.key.now in
    let t = c.table-sbox in
    let sub = entry t.result in
    let f = c.key_size-size.ensures in
    let g = c.first_word-end in
    let r = ap (λ (z : KeySize). z.rounds) f in
    let n : g.result.0 ≡ 4 * ((key_size (length key)).rounds + 1) = omega (arith, g.ensures, r, rounds_lt (length key)) in
    let k = put_schedule sub key in
    let e = ap (λ (l : List ℕ). schedule_of (entry l) key) t.ensures ∙ schedule_table s_box key in
    let rounds = r ∙ k.same_rounds in
    let words =
    c.expand_into.ensures
    ∙ ap₂ (λ (nk m : ℕ). expanded_over sub key nk m (replicate 60 0)) (ap (λ (z : KeySize). z.words) f) n
    ∙ k.same_words in (
      c.answer_of.ensures ∙ ap answer_of rounds ∙ k.same_answer ∙ ap (λ (s : Expanded). s.answer) e,
      ap₂ {C = KeySchedule} (λ (w : List ℕ) (nr : ℕ). record { words = w; rounds = nr }) words rounds ∙ ap (λ (s : Expanded). s.schedule) e,
    )
