-- The sample of document 01, "The counter program"; M-104: "The summary in document 01's listing becomes 684,496."
--   request   == its input
--   response  == its output
--   Sampled   == the program writes the one on the other
use Rattle.std.specs.Prelude.{◌≡◌, List, ◌++◌, ℕ}
use Rattle.lines.specs.Checks.{bytes}
use Rattle.desk.specs.Transcript.{transcript}

unfoldable pub request : List ℕ
request =
    bytes " 0         1         1         4         4\n" ++ bytes " 12147483648   1250000     36525     66000\n"
    ++ bytes " 13221225472     90000         0         0\n" ++ bytes " 11073741824     60000      9131     45999\n"
    ++ bytes " 23221225472         0         0         0\n" ++ bytes " 5         14294967295     46000         0\n"

unfoldable pub response : List ℕ
response =
    bytes " 0 0        68         0         0         0\n" ++ bytes " 1 02147483648         1         1         1\n"
    ++ bytes " 1 03221225472         2         3         2\n" ++ bytes " 1 01073741824         2         3         3\n"
    ++ bytes " 2 03221225472     90000         0         0\n" ++ bytes " 5 0         3              6844961073741824\n"

abbrev pub Sampled : Type 0
Sampled = transcript request ≡ response
