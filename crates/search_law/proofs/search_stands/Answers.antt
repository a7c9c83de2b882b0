use Rattle.search_law.proofs.Adds.{add_law}
use Rattle.search_law.proofs.Counts.{ample_law}
use Rattle.search_law.proofs.Loads.{load_law}
use Rattle.search_law.proofs.Opens.{open_law}
use Rattle.search_law.proofs.Runs.{run_law, show_law}
use Rattle.search_law.proofs.search_stands.Goals as goal

pub returns : goal.returns
returns c = record { opens = open_law; adds = add_law; loads = load_law; runs = run_law; budgets = ample_law; shows = show_law }
