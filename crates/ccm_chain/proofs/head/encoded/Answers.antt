use native.Mathlib.Omega.{arith}
use Rattle.ccm_chain.proofs.Chains.{data_made}
use Rattle.ccm_chain.proofs.head.encoded.Goals as goal
use mathlib.Core.Path.{◌∙◌}

pub returns : goal.returns
returns c = data_made c.args.ad.now c.requires _ _ _ (c.copy_from_slice.ensures.after ∙ c.to_be_bytes.ensures) c.copy_from_slice-2.ensures.after (omega arith)
