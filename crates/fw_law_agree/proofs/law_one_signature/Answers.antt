-- What is left to show of `law_one_signature`.
use Rattle.fw_law_agree.specs.OneSignature.{OneSignature}
use Rattle.fw_law_agree.proofs.Once.{signed_once}
use Rattle.fw_law_agree.proofs.OneSignature.{one_signature}
use Rattle.fw_law_agree.proofs.Running.{in_runs}
use Rattle.fw_law_agree.proofs.law_one_signature.Goals as goal

pub returns : goal.returns
returns c = record { once = signed_once; always = one_signature; runs = in_runs OneSignature one_signature }
