-- A plot's record and its limits. Document 01, "Plots and money".
--   is_word n             == n is a 32-bit number
--   largest_lease         == 36,525, the longest lease in days
--   largest_day           == 99,999, the last day number
--   lawful_day d          == d is a day number: a last day, or today
--   lawful_term lease day == lease days and last day within their limits
--   lawful r             == the record r may be held
use Rattle.std.specs.Prelude.{Bool, true, false, not, ◌&&◌, ℕ, ◌^◌, leb, ltb, eqb}
use Rattle.plot.specs.declared.Record.{Record}

-- "A record is four 32-bit unsigned words: key, price in pence, lease days, last day."
unfoldable pub is_word : ℕ → Bool
is_word n = ltb n (2 ^ 32)

abbrev pub largest_lease : ℕ
largest_lease = 36525

abbrev pub largest_day : ℕ
largest_day = 99999

-- "A last day, and "today", is a day number 0 to 99,999."
unfoldable pub lawful_day : ℕ → Bool
lawful_day d = leb d largest_day

-- "Lease days are 0 (perpetual; last day is then 0) or 1 to 36,525."
unfoldable pub lawful_term : ℕ → ℕ → Bool
lawful_term lease last = elim (eqb lease 0) [ true ↦ eqb last 0 | false ↦ leb lease largest_lease && lawful_day last ]

-- "Key 0 is never held." A price is any 32-bit number.
unfoldable pub lawful : Record → Bool
lawful r = is_word r.key && (not (eqb r.key 0) && (is_word r.price && lawful_term r.lease r.last))
