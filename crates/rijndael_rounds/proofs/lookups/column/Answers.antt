use mathlib.Core.Path.{ap, ap₂, ◌∙◌}
use Rattle.octets.specs.Octets.{xor}
use Rattle.aes_words.specs.Columns.{rot_word, rot_two, rot_three, sub_mix_column}
use Rattle.rijndael_rounds.proofs.lookups.column.Goals as goal

pub returns : goal.returns
unfolding sub_mix_column xor
returns c = let p = c.word_at-p.ensures in
    let q = c.rot_three-q.ensures ∙ ap rot_three c.word_at.ensures in
    let u = c.rot_two-u.ensures ∙ ap rot_two c.word_at-2.ensures in
    let v = c.rot_word-v.ensures ∙ ap rot_word c.word_at-3.ensures in
    ap₂ xor (ap₂ xor p q) (ap₂ xor u v)
