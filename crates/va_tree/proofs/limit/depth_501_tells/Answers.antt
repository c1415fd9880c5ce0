use Rattle.va_tree.proofs.DeepNodes.{depth_limit}
use Rattle.va_tree.proofs.limit.depth_501_tells.Goals as goal

pub returns : goal.returns
returns c = depth_limit
