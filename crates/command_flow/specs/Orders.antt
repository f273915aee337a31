-- The orders of a thread (own).
use Rattle.std.specs.Prelude.{◌≡◌, List}
use Rattle.assembly_image.specs.Reading.{FileReading}
use Rattle.bind_flow.specs.declared.images.ImageCode.{ImageCode}
use Rattle.bind_flow.specs.Flow.{BringsCode}
use Rattle.host_events.specs.declared.order.Order.{Order}
use Rattle.host_events.specs.Rooms.{most_contexts, numbers_due, room_for}

-- The order brings what its event needs: the event twice, the code of what it publishes, and room for the numbers
-- that the reply may list, for the entry and for the answer.
pub record IsOrder (images : List FileReading) (order : Order ImageCode) : Type 0 where
  pub same : order.again ≡ order.event
  pub coded : BringsCode images order.event order.code
  pub room : order.room ≡ room_for (numbers_due most_contexts order.event)
  pub copy : order.copy ≡ room_for (numbers_due most_contexts order.event)
