use Rattle.names.proofs.Outcomes.{inverse_law, given_law, stays_law, refused_law}
use Rattle.names.proofs.laws.table_stands.Goals as goal

pub returns : goal.returns
returns c = record { inverse = inverse_law; given = given_law; stays = stays_law; refused = refused_law }
