-- `plot::lawful_record` meets its contract: key and price are 32-bit numbers by their type, and the other two parts of the definition are
-- the function's tests.
use borrow.Author.Rules.{rules}
use borrow.Author.Tests.{lt-ltb}
use Prim.Native.Nat.{◌^◌}
use Rattle.plot.specs.Plot.{is_word, lawful}
use Rattle.plot.proofs.lawful_record.Statement.{statement}
use Rattle.plot.proofs.lawful_record.Tie as tie

returns : tie.Need-returns
unfolding lawful is_word
returns c =
    let r = c.args.«record» in
    rw (c.lawful_term.ensures, lt-ltb r.key (2 ^ 32) (search rules), lt-ltb r.price (2 ^ 32) (search rules))

pub lawful_record_spec : {M : Type 1} → statement M
lawful_record_spec = tie.close (tie.spec (λ c κs. search rules) returns)
