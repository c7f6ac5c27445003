use mathlib.Core.Path.{ap, ◌∙◌}
use mathlib.Core.List.{List}
use Prim.Native.Nat.{ℕ}
use lib.ListN.{get_or}
use mir.Syntax.{w8}
use mir.Val.{Fits}
use Rattle.octets.specs.Octets.{Octets}
use Rattle.aes_sbox.specs.Sbox.{s_box}
use Rattle.aes_spec.specs.State.{aes, add_round_key, shift_rows, sub_bytes}
use Rattle.aes_spec.specs.Cipher.{cipher}
use Rattle.aes_state.specs.Model.{block_of}
use Rattle.aes_state.proofs.Loaded.{loaded}
use borrow.Author.Rules.{rules}
use Rattle.aes_rounds.proofs.loops.cipher.Goals as goal

pub returns : goal.returns
unfolding cipher
returns c = let a = c.args in
    let b = c.last_bytes-last in
    let o : Octets 16 b.result = record { size = search rules; bytes = λ k. (let h : Fits w8 (get_or b.result k 0) = search rules in h.fits) } in
    c.as_columns.ensures ∙ c.add_round_key.ensures
    ∙ ap (add_round_key aes a.schedule.now.words a.schedule.now.rounds) (ap block_of c.columns_of.ensures ∙ loaded b.result o
    ∙ b.ensures ∙ ap (λ (x : List ℕ). shift_rows aes (sub_bytes s_box x)) c.forth.ensures)
