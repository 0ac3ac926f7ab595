use Rattle.std.proofs.Common.{◌∙◌}
use Rattle.history.proofs.new_house.NewHouse.perform_alone.Goals as goal

pub finish-requires : goal.finish-requires
finish-requires g c = c.perform-outcome.ensures.others ∙ c.in_ok-none.ensures.0
