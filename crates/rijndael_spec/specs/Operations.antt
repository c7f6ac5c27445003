-- The operations over wide blocks, by the modes of SP 800-38A. Assumes nothing: these are definitions.
use Rattle.modes_spec.specs.declared.Operation.{Operation}
use Rattle.modes_spec.specs.declared.Operation.TheVariants.{EcbEncrypt, EcbDecrypt, CbcEncrypt, CbcDecrypt}
use Rattle.rijndael_spec.specs.declared.WideOperation.{WideOperation}
use Rattle.rijndael_spec.specs.declared.WideOperation.TheVariants.{EncryptEcb, DecryptEcb, EncryptCbc, DecryptCbc}

-- the mode's own operation
abbrev pub mode_of : WideOperation → Operation
mode_of EncryptEcb = EcbEncrypt
mode_of DecryptEcb = EcbDecrypt
mode_of EncryptCbc = CbcEncrypt
mode_of DecryptCbc = CbcDecrypt

-- the operation that undoes another
abbrev pub wide_other : WideOperation → WideOperation
wide_other EncryptEcb = DecryptEcb
wide_other DecryptEcb = EncryptEcb
wide_other EncryptCbc = DecryptCbc
wide_other DecryptCbc = EncryptCbc
