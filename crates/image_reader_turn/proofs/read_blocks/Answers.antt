use mathlib.Core.Path.{◌≡◌, refl, sym, ap, ◌∙◌}
use mathlib.Core.List.{List}
use Prim.Native.Nat.{ℕ, ◌+◌, ◌-◌, ◌≤◌, ◌<◌, ◌*◌}
use lib.ListN.{length, take, drop, length-drop}
use lib.Seq.{length-take-le}
use Rattle.octets.specs.Octets.{Bytes}
use Rattle.aes_sbox.specs.Sbox.{s_box, inv_s_box}
use Rattle.aes_schedule.specs.declared.KeySchedule.{KeySchedule}
use Rattle.cmac_subkeys.specs.declared.Subkeys.{Subkeys}
use Rattle.image_layout.specs.Layout.{head_of_lem}
use Rattle.image_progress.specs.declared.Progress.{Progress}
use Rattle.image_spec.specs.Judge.{either, of_both}
use Rattle.image_spec.specs.Model.{lent_of}
use Rattle.image_spec.specs.declared.KeyPair.{KeyPair}
use Rattle.image_spec.proofs.Sizes.{encrypt_sized, decrypt_sized, opened_size}
use Rattle.image_spec.proofs.Judging.{accepted_next}
use Rattle.image_reader_tally.specs.Tally.{blocks_read_with}
use Rattle.image_reader_turn.specs.Turn.{read_blocks, cut}
use Rattle.image_reader_tally.specs.declared.BlocksRead.{BlocksRead}
use Rattle.image_reader_tally.specs.declared.Stop.TheVariants.{End}
use Rattle.image_reader_turn.proofs.Blockwise.{finish, finish_start, Ready, ahead_start, ahead_end, ahead_stopped, one_more}
use native.Mathlib.Omega.{arith}
use Rattle.image_reader_turn.proofs.read_blocks.Goals as goal

-- where the turn goes on with the next block
ready : (p : KeyPair) (dec : KeySchedule) (subkeys : Subkeys) (bl : List ℕ) (k : ℕ) (done : BlocksRead) (out : List ℕ) → done.stop ≡ End → done.accepted < k
    → k * 512 ≤ length bl → k * 480 ≤ length out → k ≤ 128 → done.bytes ≤ done.accepted * 65535 → Bytes bl → Ready (of_both (lent_of p dec subkeys)) bl k done out
ready p dec subkeys bl k done out going here hb ho hk within bytes =
    record {
      going = going;
      here = here;
      most = hk;
      within = within;
      there = omega (arith, hb, here);
      room = omega (arith, ho, here);
      bytes = bytes;
      sized = λ b s. opened_size b s (lent_of p dec subkeys).enc (encrypt_sized s_box p.enc.words p.enc.rounds) (decrypt_sized inv_s_box dec.words dec.rounds);
      small = λ b. accepted_next (lent_of p dec subkeys) (either done.progress (head_of_lem b).reserved) done.progress b;
    }

part_length : (s : List ℕ) (at n : ℕ) → at + n ≤ length s → length (take (at + n - at) (drop at s)) ≡ at + n - at
part_length s at n h = length-take-le (at + n - at) (drop at s) (omega (arith, length-drop at s))

pub loop-j-init : goal.loop-j-init
loop-j-init c =
    let a = c.args in
    let e = c.none-done.ensures in
    let k = lent_of a.keys.now a.dec.now a.subkeys.now in (
      ap (λ (x : BlocksRead). x.stop) e,
      ap (λ (x : BlocksRead). x.accepted) e,
      refl,
      omega (arith, ap (λ (x : BlocksRead). x.bytes) e),
      ahead_start (of_both k) a.blocks.now a.k c.none-done.result.progress a.output.now c.none-done.result (e ∙ ap (λ (x : Progress). blocks_read_with x 0 0 End) (sym (ap (λ (x : BlocksRead). x.progress) e))),
    )

pub loop-j-preserved : goal.loop-j-preserved
loop-j-preserved c =
    let a = c.args in
    let inv = c.loop-j.invariant in
    let at = c.loop-j.j in
    let r =
    ready a.keys.now a.dec.now a.subkeys.now a.blocks.now a.k c.loop-j.done c.loop-j.output inv.0 (omega (arith, inv.1, c.loop-j-test.true))
    c.requires.0 (omega (arith, inv.2, c.requires.1)) c.requires.2 inv.3 (λ i. omega (arith, c.type_inv.blocks i)) in
    let m =
    one_more _ _ _ _ _ r (at * 512) (part_length a.blocks.now (at * 512) 512 (omega (arith, r.there, inv.1)))
    (at * 480) (part_length c.loop-j.output (at * 480) 480 (omega (arith, r.room, inv.1)))
    _ refl _ (ap (λ (x : BlocksRead × List ℕ). x.0) c.read_block-done.ensures) _ _ _ refl (ap (λ (x : BlocksRead × List ℕ). x.1) c.read_block-done.ensures) refl in
    (c.in-End.is, m.2 c.in-End.is ∙ ap (λ (x : ℕ). x + 1) inv.1, m.0 ∙ inv.2, m.1, m.3 (ap (λ (x : ℕ). x * 512) (sym inv.1)) (ap (λ (x : ℕ). x * 480) (sym inv.1)) ∙ inv.4)

pub returns-in_default : goal.returns-in_default
returns-in_default c =
    let a = c.args in
    let k = of_both (lent_of a.keys.now a.dec.now a.subkeys.now) in
    let inv = c.loop-j.invariant in
    let at = c.loop-j.j in
    let r =
    ready a.keys.now a.dec.now a.subkeys.now a.blocks.now a.k c.loop-j.done c.loop-j.output inv.0 (omega (arith, inv.1, c.loop-j-test.true))
    c.requires.0 (omega (arith, inv.2, c.requires.1)) c.requires.2 inv.3 (λ i. omega (arith, c.type_inv.blocks i)) in
    let m =
    one_more _ _ _ _ _ r (at * 512) (part_length a.blocks.now (at * 512) 512 (omega (arith, r.there, inv.1)))
    (at * 480) (part_length c.loop-j.output (at * 480) 480 (omega (arith, r.room, inv.1)))
    _ refl _ (ap (λ (x : BlocksRead × List ℕ). x.0) c.read_block-done.ensures) _ _ _ refl (ap (λ (x : BlocksRead × List ℕ). x.1) c.read_block-done.ensures) refl in
    ahead_stopped k a.blocks.now a.k _ _ c.in_default.not-End
    ∙ m.3 (ap (λ (x : ℕ). x * 512) (sym inv.1)) (ap (λ (x : ℕ). x * 480) (sym inv.1)) ∙ inv.4
    ∙ ap (λ (x : BlocksRead). finish 0 0 a.output.now (read_blocks k x.progress (cut a.k a.blocks.now))) c.none-done.ensures ∙ finish_start a.output.now (read_blocks k a.progress (cut a.k a.blocks.now))

pub returns : goal.returns
returns c =
    let a = c.args in
    let k = of_both (lent_of a.keys.now a.dec.now a.subkeys.now) in
    let inv = c.loop-j.invariant in
    ahead_end k a.blocks.now a.k c.loop-j.done c.loop-j.output inv.0 (omega (arith, inv.1, c.loop-j-test.false)) ∙ inv.4
    ∙ ap (λ (x : BlocksRead). finish 0 0 a.output.now (read_blocks k x.progress (cut a.k a.blocks.now))) c.none-done.ensures ∙ finish_start a.output.now (read_blocks k a.progress (cut a.k a.blocks.now))
