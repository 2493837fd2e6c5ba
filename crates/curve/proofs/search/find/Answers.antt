use Rattle.curve.specs.Places.{step_at}
use Rattle.curve.proofs.search.find.Goals as goal

pub search-requires-2-clause-w_le_largest_ratio : goal.search-requires-2-clause-w_le_largest_ratio
unfolding step_at
search-requires-2-clause-w_le_largest_ratio c = c.requires
