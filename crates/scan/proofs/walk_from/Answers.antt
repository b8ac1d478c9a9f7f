-- The terminal node, then the span.
use Rattle.search.proofs.SpanLaws.{terminal_whole}
use Rattle.scan.proofs.walk_from.Goals as goal

pub terminal_of-t-requires : goal.terminal_of-t-requires
terminal_of-t-requires c = let p = c.requires in (p.0, λ z. terminal_whole _ _ _ _ _ (p.1 z))
