use Rattle.search_law.proofs.Targets.{derive_law, setting_law}
use Rattle.search_law.proofs.steps_stand.Goals as goal

pub returns : goal.returns
returns c = record { derives = derive_law; sets = setting_law }
