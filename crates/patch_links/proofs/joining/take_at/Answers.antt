use Rattle.patch_links.proofs.Places.{put-back}
use Rattle.patch_links.proofs.joining.take_at.Goals as goal

pub returns-in-Some-clause-back : goal.returns-in-Some-clause-back
returns-in-Some-clause-back g c x at = put-back c.args.nodes.now.slots c.args.key _ x at
