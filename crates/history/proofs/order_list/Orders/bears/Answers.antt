use Rattle.std.proofs.Common.{rules, ◌∙◌}
use Rattle.std.proofs.lemmas.Iterator.{YieldsList-from_slice}
use Rattle.std.proofs.lemmas.Iterator.Search.{any_from_yields_List}
use borrow.Author.Tests.{tests}
use Rattle.history.specs.Bearing.{slot_bears}
use Rattle.history.specs.Slots.{slots_of}
use Rattle.history.proofs.Slots.{any_bears_list}
use Rattle.history.proofs.order_list.Orders.bears.Goals as goal

pub returns : goal.returns
returns c =
    let slots = slots_of c.args.self.now in
    any_from_yields_List (slot_bears c.args.serial) _ _ c.any.result c.any.ensures.ran (YieldsList-from_slice slots cc) (λ x b q k. search (rules, tests)) ∙ any_bears_list c.args.serial slots
