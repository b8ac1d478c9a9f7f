-- What the counter program does between reads and writes. Of a reader, r and q are what it had to give before and after, of a writer, w and
-- v are what it held, each where it is known.
--   CameOrFailed r q input a == so many bytes of the buffer came, none only at the end or with no room; or the read failed, and none were taken
--   Whole s d input t e w v == calls of serve take the whole input, and leave no listing open; of a writer that held the bytes w, and now
--                           holds v, they are written behind w
--   Turned s d chunk t w v a == one read: a chunk came and was answered, or the input is at its end, or the read failed and nothing was done;
--                           nothing is said of a chunk whose replies could not be written
--   Answered s e input bytes == calls of serve, from a store of zeros and an empty desk on, took the whole input and put the bytes; they left the
--                           words s, the desk e and no listing open
--   most_reads            == how many reads the program makes at most
--   joined chunks        == the chunks, one after another
--   NoneEmpty chunks     == each chunk has a byte
--   SoFar s e left r q w v == chunks, none empty, one for each read that brought bytes, are taken from the reader and answered so, their
--                           replies are written, and so many more reads may bring bytes
--   ServedAll s room r q w v a == how reading ends: with no read left to make, or at the end of the input (of a buffer with room), or by a
--                           failure; where a read failed, all that came before it is answered
--   Transcribed r q w v  == what a reader gave, to its end, has been answered: the transcript of it is written behind the bytes w
--   OutOfReads r q w v   == a reader gave so many bytes that no read was left to make, and they have been answered: the transcript of them
--                           is written behind the bytes w
--   Ran s e ok last left == chunks, none empty, one for each read that brought bytes, are answered so, and so many more reads may bring
--                           bytes; where all is well, the bytes put, and then the last reply, are the transcript of the chunks
--   Ended s out room r q w v a == how a run ends: the transcript is written of all that came, to the end of the input (of a buffer with room) or
--                           till no read was left; or a read failed, or a write of replies, or the write of the last reply, which then stands
--                           in the output
use Rattle.std.specs.Prelude.{◌≡◌, Bool, true, false, List, [], ◌∷◌, ◌++◌, ◌⊎◌, ⊤, Option, Some, None, Result, Ok, Err, ℕ, ◌+◌, ◌≤◌, ◌<◌, length, take, replicate}
use Rattle.std.specs.Io.KnownBytes.{Appends, Consumes, IsAtEnd}
use Rattle.desk.specs.declared.Desk.{Desk}
use Rattle.desk.specs.Transcript.{store_words, transcript}
use Rattle.desk.specs.Serving.{line_of, Run}
use Rattle.counter.specs.declared.Failure.{Failure}
use Rattle.counter.specs.declared.Failure.TheVariants.{Reading, Writing, Ending}

abbrev pub Known : Type 0
Known = Option (List ℕ)

abbrev pub CameOrFailed : Known → Known → List ℕ → Result ℕ Failure → Type 0
CameOrFailed r q input (Ok n) = (n ≤ length input) × Consumes r q (take n input) × (n ≡ 0 → 0 < length input → IsAtEnd q)
CameOrFailed r q input (Err f) = (f ≡ Reading) × Consumes r q []

abbrev pub Whole : List ℕ → Desk → List ℕ → List ℕ → Desk → Known → Known → Type 0
Whole s d input t e w v = (bytes : List ℕ) × Run s d input bytes t e × (e.listing ≡ None) × Appends w v bytes

abbrev pub Turned : List ℕ → Desk → List ℕ → List ℕ → Known → Known → Result (Option Desk) Failure → Type 0
Turned s d chunk t w v (Ok (Some e)) = (1 ≤ length chunk) × Whole s d chunk t e w v
Turned s d chunk t w v (Ok None) = (chunk ≡ []) × Whole s d chunk t d w v
Turned s d chunk t w v (Err Reading) = (chunk ≡ []) × Whole s d chunk t d w v
Turned s d chunk t w v (Err Writing) = ⊤
Turned s d chunk t w v (Err Ending) = ⊥

-- some input, from a store of zeros and an empty desk on, with the bytes put
abbrev pub Answered : List ℕ → Desk → List ℕ → List ℕ → Type 0
Answered s e input bytes =
    (d : Desk) × (line_of d ≡ []) × (d.listing ≡ None) × Run (replicate store_words 0) d input bytes s e × (e.listing ≡ None)

abbrev pub most_reads : ℕ
most_reads = 18446744073709551615

abbrev pub joined : List (List ℕ) → List ℕ
joined [] = []
joined (c ∷ cs) = c ++ joined cs

abbrev pub NoneEmpty : List (List ℕ) → Type 0
NoneEmpty [] = ⊤
NoneEmpty (c ∷ cs) = (1 ≤ length c) × NoneEmpty cs

abbrev pub SoFar : List ℕ → Desk → ℕ → Known → Known → Known → Known → Type 0
SoFar s e left r q w v =
    (chunks : List (List ℕ)) × (bytes : List ℕ) × (length chunks + left ≡ most_reads) × NoneEmpty chunks × Answered s e (joined chunks) bytes
    × Consumes r q (joined chunks) × Appends w v bytes

abbrev pub ServedAll : List ℕ → ℕ → Known → Known → Known → Known → Result Desk Failure → Type 0
ServedAll s room r q w v (Ok e) = (left : ℕ) × SoFar s e left r q w v × ((left ≡ 0) ⊎ (0 < room → IsAtEnd q))
ServedAll s room r q w v (Err Reading) = (e : Desk) × (left : ℕ) × SoFar s e left r q w v
ServedAll s room r q w v (Err Writing) = ⊤
ServedAll s room r q w v (Err Ending) = ⊥

abbrev pub Ran : List ℕ → Desk → Bool → List ℕ → ℕ → Type 0
Ran s e ok last left =
    (chunks : List (List ℕ)) × (bytes : List ℕ) × (length chunks + left ≡ most_reads) × NoneEmpty chunks × Answered s e (joined chunks) bytes
    × (ok ≡ true → bytes ++ last ≡ transcript (joined chunks))

abbrev pub Transcribed : Known → Known → Known → Known → Type 0
Transcribed r q w v = (input : List ℕ) × Consumes r q input × IsAtEnd q × Appends w v (transcript input)

abbrev pub OutOfReads : Known → Known → Known → Known → Type 0
OutOfReads r q w v = (input : List ℕ) × (most_reads ≤ length input) × Consumes r q input × Appends w v (transcript input)

abbrev pub Ended : {A : Type 0} → List ℕ → List ℕ → ℕ → Known → Known → Known → Known → Result A Failure → Type 0
Ended s out room r q w v (Ok a) =
    (e : Desk) × (put left : ℕ) × Ran s e true (take put out) left
    × (((left ≡ 0) × OutOfReads r q w v) ⊎ (0 < room → Transcribed r q w v))
Ended s out room r q w v (Err Reading) = (e : Desk) × (left : ℕ) × Ran s e false [] left
Ended s out room r q w v (Err Writing) = ⊤
Ended s out room r q w v (Err Ending) = (e : Desk) × (put left : ℕ) × Ran s e true (take put out) left
