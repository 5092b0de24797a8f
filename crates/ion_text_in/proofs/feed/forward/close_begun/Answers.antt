use Rattle.std.proofs.Common.{refl, arith}
use Rattle.ion_text_in.proofs.FeedItems.{closed-begun}
use Rattle.ion_text_in.proofs.feed.forward.close_begun.Goals as goal

pub returns-in-Some : goal.returns-in-Some
returns-in-Some g c = rw c.in-Some.is (λ before is. closed-begun before _ c.pop-opened.result is c.pop-opened.ensures.items c.pop-opened.ensures.cost)

pub returns-in-None : goal.returns-in-None
returns-in-None g c = rw c.in-None.is (λ before is. (is, record { held = omega arith; peak = refl; refused = refl }))
