-- Demand 1 for the cipher and its blocks: every public call asks nothing of its caller, and any two outcomes that its contract
-- allows agree; those that are lent memory to write leave it as it was where there is no room. Assumes nothing.
use mathlib.Core.Path.{◌≡◌, sym, ◌∙◌}
use mathlib.Core.Bool.{false}
use lib.ListN.{length}
use Rattle.octets_block.specs.Blocks.{fits}
use Rattle.aes_schedule.specs.Schedule.{round_count}
use Rattle.aes_expand.specs.Expansion.{expandable, expanded_over}
use Rattle.aes_spec.specs.Model.{inverse_words}
use Rattle.aes_state.specs.Model.{block_of}
use Rattle.field.proofs.double.Reads as double
use Rattle.field.proofs.product.Reads as product
use Rattle.field_log.proofs.logarithm.Reads as logarithm
use Rattle.field_exp.proofs.power.Reads as power
use Rattle.aes_sbox.proofs.table.Reads as table
use Rattle.aes_sbox.proofs.inv_table.Reads as inv_table
use Rattle.aes_words.proofs.join.Reads as join
use Rattle.aes_words.proofs.rot_word.Reads as rot_word
use Rattle.aes_words.proofs.rot_two.Reads as rot_two
use Rattle.aes_words.proofs.rot_three.Reads as rot_three
use Rattle.aes_words.proofs.sub_word.Reads as sub_word
use Rattle.aes_mix.proofs.mix_column.Reads as mix_column
use Rattle.aes_mix.proofs.inv_mix_column.Reads as inv_mix_column
use Rattle.aes_expand.proofs.expand_into.Reads as expand_into
use Rattle.aes_schedule.proofs.KeySchedule.new.Reads as new
use Rattle.aes_schedule.proofs.KeySchedule.none.Reads as no-schedule
use Rattle.aes_schedule.proofs.KeySchedule.expand.Reads as expand
use Rattle.aes_schedule.proofs.KeySchedule.is_usable.Reads as is_usable
use Rattle.aes_schedule.proofs.answer_of.Reads as answer_of
use Rattle.aes_schedule.proofs.is_round_count.Reads as is_round_count
use Rattle.aes_words.proofs.word_bytes.Reads as word_bytes
use Rattle.aes_schedule.proofs.RoundKeyNumber.first_word.Reads as first_word
use Rattle.aes_state.proofs.columns_of.Reads as columns_of
use Rattle.aes_state.proofs.block_of.Reads as Block-of
use Rattle.aes_state.proofs.as_columns.Reads as as_columns
use Rattle.aes.proofs.encrypt.Reads as encrypt
use Rattle.aes.proofs.decrypt.Reads as decrypt
use Rattle.aes_rounds.proofs.encrypt_block.Reads as encrypt_block
use Rattle.aes_rounds.proofs.absorb.Reads as absorb
use Rattle.aes_rounds_inverse.proofs.decrypt_block.Reads as decrypt_block
use Rattle.aes_schedule_inverse.proofs.invert.Reads as invert
use Rattle.aes_schedule_inverse.proofs.inverse_into.Reads as inverse_into
use Rattle.aes_schedule_inverse.proofs.mix_back.Reads as mix_back
use Rattle.aes_lookup_forward.proofs.forward_at.Reads as forward_at
use Rattle.aes_lookup_inverse.proofs.inverse_at.Reads as inverse-at
use Rattle.aes_lookup_sbox.proofs.sub_at.Reads as sub_at
use Rattle.aes_lookup_inv_sbox.proofs.inv_sub_at.Reads as inv_sub_at
use Rattle.aes_schedule.proofs.KeyAnswer.number.Reads as key_number
use Rattle.aes_schedule.proofs.both_taken.Reads as both-taken

pub double_asks_nothing : (κs : _) (a : _) → double.Asked κs a
double_asks_nothing κs a = tt

pub double_determined : (κs : _) (a : _) (r r' : _) (s s' : _) → double.Post κs a r s → double.Post κs a r' s' → r ≡ r'
double_determined κs a r r' s s' p q = p ∙ sym q

pub product_asks_nothing : (κs : _) (a : _) → product.Asked κs a
product_asks_nothing κs a = tt

pub product_determined : (κs : _) (a : _) (r r' : _) (s s' : _) → product.Post κs a r s → product.Post κs a r' s' → r ≡ r'
product_determined κs a r r' s s' p q = p ∙ sym q

pub logarithm_asks_nothing : (κs : _) (a : _) → logarithm.Asked κs a
logarithm_asks_nothing κs a = tt

pub logarithm_determined : (κs : _) (a : _) (r r' : _) (s s' : _) → logarithm.Post κs a r s → logarithm.Post κs a r' s' → r ≡ r'
logarithm_determined κs a r r' s s' p q = p ∙ sym q

pub power_asks_nothing : (κs : _) (a : _) → power.Asked κs a
power_asks_nothing κs a = tt

pub power_determined : (κs : _) (a : _) (r r' : _) (s s' : _) → power.Post κs a r s → power.Post κs a r' s' → r ≡ r'
power_determined κs a r r' s s' p q = p ∙ sym q

pub table_asks_nothing : (κs : _) (a : _) → table.Asked κs a
table_asks_nothing κs a = tt

pub table_determined : (κs : _) (a : _) (r r' : _) (s s' : _) → table.Post κs a r s → table.Post κs a r' s' → r ≡ r'
table_determined κs a r r' s s' p q = p ∙ sym q

pub inv_table_asks_nothing : (κs : _) (a : _) → inv_table.Asked κs a
inv_table_asks_nothing κs a = tt

pub inv_table_determined : (κs : _) (a : _) (r r' : _) (s s' : _) → inv_table.Post κs a r s → inv_table.Post κs a r' s' → r ≡ r'
inv_table_determined κs a r r' s s' p q = p ∙ sym q

pub join_asks_nothing : (κs : _) (a : _) → join.Asked κs a
join_asks_nothing κs a = tt

pub join_determined : (κs : _) (a : _) (r r' : _) (s s' : _) → join.Post κs a r s → join.Post κs a r' s' → r ≡ r'
join_determined κs a r r' s s' p q = p ∙ sym q

pub rot_word_asks_nothing : (κs : _) (a : _) → rot_word.Asked κs a
rot_word_asks_nothing κs a = tt

pub rot_word_determined : (κs : _) (a : _) (r r' : _) (s s' : _) → rot_word.Post κs a r s → rot_word.Post κs a r' s' → r ≡ r'
rot_word_determined κs a r r' s s' p q = p ∙ sym q

pub rot_two_asks_nothing : (κs : _) (a : _) → rot_two.Asked κs a
rot_two_asks_nothing κs a = tt

pub rot_two_determined : (κs : _) (a : _) (r r' : _) (s s' : _) → rot_two.Post κs a r s → rot_two.Post κs a r' s' → r ≡ r'
rot_two_determined κs a r r' s s' p q = p ∙ sym q

pub rot_three_asks_nothing : (κs : _) (a : _) → rot_three.Asked κs a
rot_three_asks_nothing κs a = tt

pub rot_three_determined : (κs : _) (a : _) (r r' : _) (s s' : _) → rot_three.Post κs a r s → rot_three.Post κs a r' s' → r ≡ r'
rot_three_determined κs a r r' s s' p q = p ∙ sym q

pub sub_word_asks_nothing : (κs : _) (a : _) → sub_word.Asked κs a
sub_word_asks_nothing κs a = tt

pub sub_word_determined : (κs : _) (a : _) (r r' : _) (s s' : _) → sub_word.Post κs a r s → sub_word.Post κs a r' s' → r ≡ r'
sub_word_determined κs a r r' s s' p q = p.whole ∙ sym q.whole

pub mix_column_asks_nothing : (κs : _) (a : _) → mix_column.Asked κs a
mix_column_asks_nothing κs a = tt

pub mix_column_determined : (κs : _) (a : _) (r r' : _) (s s' : _) → mix_column.Post κs a r s → mix_column.Post κs a r' s' → r ≡ r'
mix_column_determined κs a r r' s s' p q = p ∙ sym q

pub inv_mix_column_asks_nothing : (κs : _) (a : _) → inv_mix_column.Asked κs a
inv_mix_column_asks_nothing κs a = tt

pub inv_mix_column_determined : (κs : _) (a : _) (r r' : _) (s s' : _) → inv_mix_column.Post κs a r s → inv_mix_column.Post κs a r' s' → r ≡ r'
inv_mix_column_determined κs a r r' s s' p q = p ∙ sym q

pub new_asks_nothing : (κs : _) (a : _) → new.Asked κs a
new_asks_nothing κs a = tt

pub new_determined : (κs : _) (a : _) (r r' : _) (s s' : _) → new.Post κs a r s → new.Post κs a r' s' → r ≡ r'
new_determined κs a r r' s s' p q = p ∙ sym q

pub is_round_count_asks_nothing : (κs : _) (a : _) → is_round_count.Asked κs a
is_round_count_asks_nothing κs a = tt

pub is_round_count_determined : (κs : _) (a : _) (r r' : _) (s s' : _) → is_round_count.Post κs a r s → is_round_count.Post κs a r' s' → r ≡ r'
is_round_count_determined κs a r r' s s' p q = p ∙ sym q

pub columns_of_asks_nothing : (κs : _) (a : _) → columns_of.Asked κs a
columns_of_asks_nothing κs a = tt

pub columns_of_determined : (κs : _) (a : _) (r r' : _) (s s' : _) → columns_of.Post κs a r s → columns_of.Post κs a r' s' → r ≡ r'
columns_of_determined κs a r r' s s' p q = p ∙ sym q

pub block_of_asks_nothing : (κs : _) (a : _) → Block-of.Asked κs a
block_of_asks_nothing κs a = tt

pub block_of_determined : (κs : _) (a : _) (r r' : _) (s s' : _) → Block-of.Post κs a r s → Block-of.Post κs a r' s' → r ≡ r'
block_of_determined κs a r r' s s' p q = p ∙ sym q

pub word_bytes_asks_nothing : (κs : _) (a : _) → word_bytes.Asked κs a
word_bytes_asks_nothing κs a = tt

pub word_bytes_determined : (κs : _) (a : _) (r r' : _) (s s' : _) → word_bytes.Post κs a r s → word_bytes.Post κs a r' s' → r ≡ r'
word_bytes_determined κs a r r' s s' p q = p ∙ sym q

pub first_word_asks_nothing : (κs : _) (a : _) → first_word.Asked κs a
first_word_asks_nothing κs a = tt

pub first_word_determined : (κs : _) (a : _) (r r' : _) (s s' : _) → first_word.Post κs a r s → first_word.Post κs a r' s' → r.0 ≡ r'.0
first_word_determined κs a r r' s s' p q = p ∙ sym q

pub encrypt_asks_nothing : (κs : _) (a : _) → encrypt.Asked κs a
encrypt_asks_nothing κs a = tt

pub encrypt_determined : (κs : _) (a : _) (r r' : _) (s s' : _) → encrypt.Post κs a r s → encrypt.Post κs a r' s' → r ≡ r'
encrypt_determined κs a r r' s s' p q = p ∙ sym q

pub decrypt_asks_nothing : (κs : _) (a : _) → decrypt.Asked κs a
decrypt_asks_nothing κs a = tt

pub decrypt_determined : (κs : _) (a : _) (r r' : _) (s s' : _) → decrypt.Post κs a r s → decrypt.Post κs a r' s' → r ≡ r'
decrypt_determined κs a r r' s s' p q = p ∙ sym q

pub encrypt_block_asks_nothing : (κs : _) (a : _) → encrypt_block.Asked κs a
encrypt_block_asks_nothing κs a = tt

pub encrypt_block_determined : (κs : _) (a : _) (r r' : _) (s s' : _) → encrypt_block.Post κs a r s → encrypt_block.Post κs a r' s' → r ≡ r'
encrypt_block_determined κs a r r' s s' p q = p ∙ sym q

pub decrypt_block_asks_nothing : (κs : _) (a : _) → decrypt_block.Asked κs a
decrypt_block_asks_nothing κs a = tt

pub decrypt_block_determined : (κs : _) (a : _) (r r' : _) (s s' : _) → decrypt_block.Post κs a r s → decrypt_block.Post κs a r' s' → r ≡ r'
decrypt_block_determined κs a r r' s s' p q = p ∙ sym q

pub answer_of_asks_nothing : (κs : _) (a : _) → answer_of.Asked κs a
answer_of_asks_nothing κs a = tt

pub answer_of_determined : (κs : _) (a : _) (r r' : _) (s s' : _) → answer_of.Post κs a r s → answer_of.Post κs a r' s' → r ≡ r'
answer_of_determined κs a r r' s s' p q = p ∙ sym q

pub as_columns_asks_nothing : (κs : _) (a : _) → as_columns.Asked κs a
as_columns_asks_nothing κs a = tt

-- four columns are known by their block: words of 32 bits with the same bytes are the same
pub as_columns_determined : (κs : _) (a : _) (r r' : _) (s s' : _) → as_columns.Post κs a r s → as_columns.Post κs a r' s' → block_of r ≡ block_of r'
as_columns_determined κs a r r' s s' p q = p ∙ sym q

pub forward_at_asks_nothing : (κs : _) (a : _) → forward_at.Asked κs a
forward_at_asks_nothing κs a = tt

pub forward_at_determined : (κs : _) (a : _) (r r' : _) (s s' : _) → forward_at.Post κs a r s → forward_at.Post κs a r' s' → r ≡ r'
forward_at_determined κs a r r' s s' p q = p ∙ sym q

pub inverse_at_asks_nothing : (κs : _) (a : _) → inverse-at.Asked κs a
inverse_at_asks_nothing κs a = tt

pub inverse_at_determined : (κs : _) (a : _) (r r' : _) (s s' : _) → inverse-at.Post κs a r s → inverse-at.Post κs a r' s' → r ≡ r'
inverse_at_determined κs a r r' s s' p q = p ∙ sym q

pub sub_at_asks_nothing : (κs : _) (a : _) → sub_at.Asked κs a
sub_at_asks_nothing κs a = tt

pub sub_at_determined : (κs : _) (a : _) (r r' : _) (s s' : _) → sub_at.Post κs a r s → sub_at.Post κs a r' s' → r ≡ r'
sub_at_determined κs a r r' s s' p q = p ∙ sym q

pub inv_sub_at_asks_nothing : (κs : _) (a : _) → inv_sub_at.Asked κs a
inv_sub_at_asks_nothing κs a = tt

pub inv_sub_at_determined : (κs : _) (a : _) (r r' : _) (s s' : _) → inv_sub_at.Post κs a r s → inv_sub_at.Post κs a r' s' → r ≡ r'
inv_sub_at_determined κs a r r' s s' p q = p ∙ sym q

pub expand_into_asks_nothing : (κs : _) (a : _) → expand_into.Asked κs a
expand_into_asks_nothing κs a = tt

pub expand_into_determined : (κs : _) (a : _) (r r' : _) (s s' : _) → expand_into.Post κs a r s → expand_into.Post κs a r' s' → s.1.1.1.1.0.now ≡ s'.1.1.1.1.0.now
expand_into_determined κs a r r' s s' p q = p ∙ sym q

pub expand_into_refused_keeps : (κs : _) (a : _) (r : _) (s : _) → expand_into.Post κs a r s
    → expandable (length a.1.0.now) a.1.1.0 a.1.1.1.0 (length a.1.1.1.1.0.now) ≡ false → s.1.1.1.1.0.now ≡ a.1.1.1.1.0.now
unfolding expanded_over
expand_into_refused_keeps κs a r s p e = p ∙ rw e

pub no_schedule_asks_nothing : (κs : _) (a : _) → no-schedule.Asked κs a
no_schedule_asks_nothing κs a = tt

pub no_schedule_determined : (κs : _) (a : _) (r r' : _) (s s' : _) → no-schedule.Post κs a r s → no-schedule.Post κs a r' s' → r ≡ r'
no_schedule_determined κs a r r' s s' p q = p ∙ sym q

pub is_usable_asks_nothing : (κs : _) (a : _) → is_usable.Asked κs a
is_usable_asks_nothing κs a = tt

pub is_usable_determined : (κs : _) (a : _) (r r' : _) (s s' : _) → is_usable.Post κs a r s → is_usable.Post κs a r' s' → r ≡ r'
is_usable_determined κs a r r' s s' p q = p ∙ sym q

pub expand_asks_nothing : (κs : _) (a : _) → expand.Asked κs a
expand_asks_nothing κs a = tt

-- exception: aes_schedule::KeySchedule::expand: it writes the whole schedule, that of no key for a key that is refused, and what was there plays no part
pub expand_determined : (κs : _) (a : _) (r r' : _) (s s' : _) → expand.Post κs a r s → expand.Post κs a r' s' → (r ≡ r') × (s.0.now ≡ s'.0.now)
expand_determined κs a r r' s s' p q = (p.0 ∙ sym q.0, p.1 ∙ sym q.1)

pub absorb_asks_nothing : (κs : _) (a : _) → absorb.Asked κs a
absorb_asks_nothing κs a = tt

pub absorb_determined : (κs : _) (a : _) (r r' : _) (s s' : _) → absorb.Post κs a r s → absorb.Post κs a r' s' → s.1.0.now ≡ s'.1.0.now
absorb_determined κs a r r' s s' p q = p ∙ sym q

pub absorb_refused_keeps : (κs : _) (a : _) (r : _) (s : _) → absorb.Post κs a r s → fits (length a.1.1.0.now) a.1.1.1.0 ≡ false → s.1.0.now ≡ a.1.0.now
absorb_refused_keeps κs a r s p e = p ∙ rw e

pub invert_asks_nothing : (κs : _) (a : _) → invert.Asked κs a
invert_asks_nothing κs a = tt

pub invert_determined : (κs : _) (a : _) (r r' : _) (s s' : _) → invert.Post κs a r s → invert.Post κs a r' s' → s.0.now ≡ s'.0.now
invert_determined κs a r r' s s' p q = p ∙ sym q

pub invert_refused_keeps : (κs : _) (a : _) (r : _) (s : _) → invert.Post κs a r s → round_count a.0.now.rounds ≡ false → s.0.now ≡ a.0.now
unfolding inverse_words
invert_refused_keeps κs a r s p e = p ∙ rw e

pub inverse_into_asks_nothing : (κs : _) (a : _) → inverse_into.Asked κs a
inverse_into_asks_nothing κs a = tt

-- exception: aes_schedule_inverse::inverse_into: it refuses nothing and writes the whole schedule, and what was there plays no part
pub inverse_into_determined : (κs : _) (a : _) (r r' : _) (s s' : _) → inverse_into.Post κs a r s → inverse_into.Post κs a r' s' → s.1.0.now ≡ s'.1.0.now
inverse_into_determined κs a r r' s s' p q = p ∙ sym q

pub mix_back_asks_nothing : (κs : _) (a : _) → mix_back.Asked κs a
mix_back_asks_nothing κs a = tt

-- exception: aes_schedule_inverse::mix_back: it refuses nothing, and leaves the words outside its two places as they were
pub mix_back_determined : (κs : _) (a : _) (r r' : _) (s s' : _) → mix_back.Post κs a r s → mix_back.Post κs a r' s' → s.0.now ≡ s'.0.now
mix_back_determined κs a r r' s s' p q = p ∙ sym q

pub both_taken_asks_nothing : (κs : _) (a : _) → both-taken.Asked κs a
both_taken_asks_nothing κs a = tt

pub both_taken_determined : (κs : _) (a : _) (r r' : _) (s s' : _) → both-taken.Post κs a r s → both-taken.Post κs a r' s' → r ≡ r'
both_taken_determined κs a r r' s s' p q = p ∙ sym q

pub key_number_asks_nothing : (κs : _) (a : _) → key_number.Asked κs a
key_number_asks_nothing κs a = tt

pub key_number_determined : (κs : _) (a : _) (r r' : _) (s s' : _) → key_number.Post κs a r s → key_number.Post κs a r' s' → r ≡ r'
key_number_determined κs a r r' s s' p q = p ∙ sym q
