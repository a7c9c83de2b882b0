use Rattle.store.proofs.Meanings.{least_false_law, find_law, put_law}
use Rattle.store.proofs.laws.meaning_stands.Goals as goal

pub returns : goal.returns
returns c = record { least = least_false_law; finds = find_law; puts = put_law }
