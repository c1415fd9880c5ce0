use Rattle.std.proofs.Common.{arith}
use Rattle.c_raw_build.proofs.Tokens.{text_due}
use Rattle.c_raw_build.proofs.Trees.{raw_read}
use Rattle.c_raw_build.proofs.raw.read_raw.Goals as goal

pub returns-in-Ok-clause-raw : goal.returns-in-Ok-clause-raw
returns-in-Ok-clause-raw c = raw_read c.args.bytes.now c.args.parsed.now.tokens.items c.args.parsed.now.tree _ c.requires (grind arith)

pub file-requires : goal.file-requires
file-requires c = text_due c.args.bytes.now c.args.parsed.now.tokens.items c.args.parsed.now.tree _ _ c.requires (grind arith) (grind arith) (grind arith) (grind arith)
