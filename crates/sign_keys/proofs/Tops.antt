-- What top leaves sign.
use Rattle.std.proofs.Common.{ℕ, List, ◌<◌}
use Rattle.hss.proofs.Pairs.{top-signs-one-key}
use Rattle.sign_keys.specs.Keys.{Hss, KeySecret, Lms, TopSignsTree, index_count, signature_of}

pub top-signs : (key : KeySecret) (index : ℕ) (message : List ℕ) → index < index_count key → TopSignsTree key index (signature_of key index message)
top-signs (Lms secret) index message within = tt
top-signs (Hss pair) index message within = top-signs-one-key pair index message within
