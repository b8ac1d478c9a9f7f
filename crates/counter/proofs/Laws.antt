-- Calls of serve, one after another: a chunk is served whole, chunk after chunk makes the input, and the bytes put are the transcript.
--   Reaches s d input w t e v from == the input up to from is taken: what the rest brings, with the bytes put so far, is what the whole
--                                brings; a writer that held w holds v, with those bytes behind w
--   ReadSoFar s e left r q w v == as SoFar, with a chunk for each read, also for one that brought nothing; so many reads are left to make
use mathlib.Core.Path.{◌≡◌, refl, sym, ap, ap₂, ◌∙◌, subst}
use mathlib.Core.Bool.{Bool, true, false, false≢true}
use mathlib.Core.List.{List, [], ◌∷◌, ◌++◌, append_assoc, append-nil}
use mathlib.Core.Logic.{inl, inr}
use Prim.Native.Nat.{ℕ, ◌+◌, ◌-◌, ◌≤◌, ◌<◌}
use native.Mathlib.Omega.{arith}
use lib.ListN.{length, take, drop, replicate, length-append, length-take}
use lib.Seq.{drop-drop, drop-length}
use Rattle.std.specs.Prelude.{Option, Some, None, Result, Ok, Err, IsErr, IfErr, OnOk}
use Rattle.std.specs.Io.KnownBytes.{Appends, Consumes, IsAtEnd}
use Rattle.std.proofs.KnownBytes.{Appends-nil, Appends-trans, Consumes-nil, Consumes-trans}
use Rattle.desk.specs.declared.Desk.{Desk}
use Rattle.desk.specs.declared.Progress.{Progress}
use Rattle.desk.specs.Listing.{part_bytes}
use Rattle.desk.specs.Transcript.{Served, ending, store_words, transcript}
use Rattle.desk.specs.Serving.{line_of, rest_of, Serves, Finishes, Run, over, call, finished}
use Rattle.desk.proofs.ServeLaws.{part_from, part_long_lem}
use Rattle.desk.proofs.Delivery.{delivered, end_put}
use Rattle.counter.specs.declared.Failure.{Failure}
use Rattle.counter.specs.declared.Failure.TheVariants.{Reading, Writing, Ending}
use Rattle.counter.specs.Program.{Known, Whole, Turned, Answered, most_reads, joined, NoneEmpty, SoFar, ServedAll, Ran, Transcribed, OutOfReads, Ended}

-- runs, one after another
pub run_then : {s : List ℕ} {d : Desk} {is xs t : List ℕ} {e : Desk} {bs ys u : List ℕ} {f : Desk} → Run s d is xs t e → Run t e bs ys u f
    → Run s d (is ++ bs) (xs ++ ys) u f
run_then over q = q
run_then {s} {d} {bs = bs} {ys = ys} {u = w} {f = f} (call {t = t} {bytes = bytes} chunk more out out' r step rest) q =
    let X : List ℕ = take r.put out' in
    subst (λ is. Run s d is ((X ++ bytes) ++ ys) w f) (sym (append_assoc chunk more bs))
    (subst (λ xs. Run s d (chunk ++ (more ++ bs)) xs w f) (sym (append_assoc X bytes ys))
    (call chunk (more ++ bs) out out' r step
    (subst (λ is. Run t r.desk is (bytes ++ ys) w f) (append_assoc (drop r.taken chunk) more bs) (run_then rest q))))

-- a chunk, step by step

abbrev pub Reaches : List ℕ → Desk → List ℕ → Known → List ℕ → Desk → Known → ℕ → Type 0
Reaches s d input w t e v from =
    (bs : List ℕ) × ((bytes u : List ℕ) (f : Desk) → Run t e (drop from input) bytes u f → Run s d input (bs ++ bytes) u f)
    × Appends w v bs

-- how many bytes are still to be written, if no more input comes
abbrev pub to_write : List ℕ → Desk → List ℕ → ℕ
to_write s d input = length (rest_of s d input).bytes

pub reaches_start : (s : List ℕ) (d : Desk) (input : List ℕ) (w : Known) → Reaches s d input w s d w 0
reaches_start s d input w = ([], λ bytes u f q. q, Appends-nil w)

pub reaches_end : (s : List ℕ) (d : Desk) (input t : List ℕ) (e : Desk) (w v : Known) (from : ℕ) → Reaches s d input w t e v from
    → from ≡ length input → e.listing ≡ None → Whole s d input t e w v
reaches_end s d input t e w v from r all quiet =
    let none : drop from input ≡ [] = ap (λ (i : ℕ). drop i input) all ∙ drop-length input in (
      r.0 ++ [],
      r.1 [] t e (subst (λ is. Run t e is [] t e) (sym none) over),
      quiet,
      subst (Appends w v) (sym (append-nil r.0)) r.2,
    )

module _ (t : List ℕ) (e : Desk) (input : List ℕ) (from : ℕ) (out u out' : List ℕ) (r : Progress)
    (step : Serves t e (take (length input - from) (drop from input)) out u out' r) where
  rest_served : Serves t e (drop from input) out u out' r
  rest_served = subst (λ is. Serves t e is out u out' r) (part_from input from) step

  pub reaches_then : (s : List ℕ) (d : Desk) (v x y : Known) → Appends x y (take r.put out') → Reaches s d input v t e x from
      → Reaches s d input v u r.desk y (from + r.taken)
  reaches_then s d v x y sent w =
      let X : List ℕ = take r.put out' in
      let chunk : List ℕ = drop from input in (
        w.0 ++ X,
        λ bytes v f q.
            let left : drop r.taken chunk ++ [] ≡ drop (from + r.taken) input =
            append-nil (drop r.taken chunk) ∙ drop-drop r.taken from input in
            subst (λ xs. Run s d input xs v f) (sym (append_assoc w.0 X bytes))
            (w.1 (X ++ bytes) v f
            (subst (λ is. Run t e is (X ++ bytes) v f) (append-nil chunk)
            (call chunk [] out out' r rest_served (subst (λ is. Run u r.desk is bytes v f) (sym left) q)))),
        Appends-trans v x y w.0 X w.2 sent,
      )

  pub taken_within : from ≤ length input → from + r.taken ≤ length input
  taken_within h = omega (arith, step.taken, part_long_lem input from)

  written_less : r.put + length (rest_of u r.desk (drop (from + r.taken) input)).bytes ≡ length (rest_of t e (drop from input)).bytes
  written_less =
      let X : List ℕ = take r.put out' in
      let chunk : List ℕ = drop from input in
      let long : length X ≡ r.put = simp length-take (omega (arith, step.put, step.long)) in
      let says = rest_served.says [] in
      let after : rest_of u r.desk (drop r.taken chunk ++ []) ≡ rest_of u r.desk (drop (from + r.taken) input) =
      ap (rest_of u r.desk) (append-nil (drop r.taken chunk) ∙ drop-drop r.taken from input) in
      let front : rest_of t e chunk ≡ rest_of t e (chunk ++ []) = ap (rest_of t e) (sym (append-nil chunk)) in
      let n : length (rest_of t e chunk).bytes ≡ length X + length (rest_of u r.desk (drop (from + r.taken) input)).bytes =
      ap (λ (a : Served). length a.bytes) (front ∙ says) ∙ length-append X _
      ∙ ap (λ (a : Served). length X + length a.bytes) after in
      omega (arith, n, long)

  -- with no room left for a part, a byte is put
  pub to_write_less : part_bytes ≤ length out → length out - r.put < part_bytes
      → to_write u r.desk (drop (from + r.taken) input) < to_write t e (drop from input)
  to_write_less h l = omega (arith, written_less, step.put)

  -- with room left, all is taken
  pub stops_then : Finishes (take (length input - from) (drop from input)) out r → part_bytes ≤ length out - r.put → from ≤ length input
      → (from + r.taken ≡ length input) × (r.desk.listing ≡ None)
  stops_then (inl f) l h = (omega (arith, f.0, part_long_lem input from), f.1)
  stops_then (inr f) l h = absurd (omega (arith, f, step.put))

-- the reply to an unfinished line
pub ending_put : (d : Desk) (out out' : List ℕ) (n : ℕ) → length d.line ≡ 43 → part_bytes ≤ length out → n ≡ (finished d out).count
    → out' ≡ (finished d out).bytes → take n out' ≡ ending (line_of d)
ending_put d out out' n long room c b = ap₂ take c b ∙ end_put d out long (omega arith)

-- read after read

joined_then : (cs : List (List ℕ)) (c : List ℕ) → joined (cs ++ c ∷ []) ≡ joined cs ++ c
joined_then [] c = append-nil c
joined_then (b ∷ cs) c = ap (λ (xs : List ℕ). b ++ xs) (joined_then cs c) ∙ sym (append_assoc b (joined cs) c)

count_then : (cs : List (List ℕ)) (c : List ℕ) (left next : ℕ) → next + 1 ≡ left → length cs + left ≡ most_reads
    → length (cs ++ c ∷ []) + next ≡ most_reads
count_then cs c left next one n = omega (arith, length-append cs (c ∷ []), n, one)

none_empty_then : (cs : List (List ℕ)) (c : List ℕ) → NoneEmpty cs → 1 ≤ length c → NoneEmpty (cs ++ c ∷ [])
none_empty_then [] c all full = (full, tt)
none_empty_then (b ∷ cs) c all full = (all.0, none_empty_then cs c all.1 full)

many_bytes : (cs : List (List ℕ)) → NoneEmpty cs → length cs ≤ length (joined cs)
many_bytes [] all = omega arith
many_bytes (c ∷ cs) all = omega (arith, many_bytes cs all.1, all.0, length-append c (joined cs))

pub so_start : (s : List ℕ) (d : Desk) (r w : Known) → s ≡ replicate store_words 0 → line_of d ≡ [] → d.listing ≡ None
    → SoFar s d most_reads r r w w
so_start s d r w zeros empty none = (
  [],
  [],
  omega arith,
  tt,
  (
    d,
    empty,
    none,
    subst (λ t. Run (replicate store_words 0) d [] [] t d) (sym zeros) over,
    none,
  ),
  Consumes-nil r,
  Appends-nil w,
)

-- chunks that are answered so, and one more
module _ (s : List ℕ) (d : Desk) (chunk t : List ℕ) (e : Desk) (r q p w v x : Known) (cs : List (List ℕ)) (bytes : List ℕ)
    (a : Answered s d (joined cs) bytes) (taken : Consumes r q (joined cs)) (put : Appends w v bytes) (b : Whole s d chunk t e v x)
    (came : Consumes q p chunk) where
  on_with : (input : List ℕ) → input ≡ joined cs ++ chunk
      → Answered t e input (bytes ++ b.0) × Consumes r p input × Appends w x (bytes ++ b.0)
  on_with input is = (
    (
      a.0,
      a.1,
      a.2,
      subst (λ is. Run (replicate store_words 0) a.0 is (bytes ++ b.0) t e) (sym is) (run_then a.3 b.1),
      b.2,
    ),
    subst (Consumes r p) (sym is) (Consumes-trans r q p (joined cs) chunk taken came),
    Appends-trans w v x bytes b.0 put b.3,
  )

abbrev pub ReadSoFar : List ℕ → Desk → ℕ → Known → Known → Known → Known → Type 0
ReadSoFar s e left r q w v =
    (chunks : List (List ℕ)) × (bytes : List ℕ) × (length chunks + left ≡ most_reads) × Answered s e (joined chunks) bytes
    × Consumes r q (joined chunks) × Appends w v bytes

-- one read more: chunks, and then what it brought
module _ (s : List ℕ) (d : Desk) (chunk t : List ℕ) (e : Desk) (left : ℕ) (r q p w v x : Known) (a : SoFar s d left r q w v)
    (b : Whole s d chunk t e v x) (came : Consumes q p chunk) where
  so_on : (next : ℕ) (cs : List (List ℕ)) → length cs + next ≡ most_reads → NoneEmpty cs → joined cs ≡ joined a.0 ++ chunk
      → SoFar t e next r p w x
  so_on next cs n full is =
      let c = on_with s d chunk t e r q p w v x a.0 a.1 a.4 a.5 a.6 b came (joined cs) is in (cs, a.1 ++ b.0, n, full, c.0, c.1, c.2)

  -- it brought a byte
  pub so_some : (next : ℕ) → next + 1 ≡ left → 1 ≤ length chunk → SoFar t e next r p w x
  so_some next one full =
      so_on next (a.0 ++ chunk ∷ []) (count_then a.0 chunk left next one a.2) (none_empty_then a.0 chunk a.3 full) (joined_then a.0 chunk)

  -- it brought nothing
  pub so_still : chunk ≡ [] → SoFar t e left r p w x
  so_still none =
      so_on left a.0 a.2 a.3 (sym (append-nil (joined a.0)) ∙ ap (λ (c : List ℕ). joined a.0 ++ c) (sym none))

-- one read more, whether or not it brought a byte
pub so_then : (s : List ℕ) (d : Desk) (chunk t : List ℕ) (e : Desk) (left next : ℕ) (r q p w v x : Known) → next + 1 ≡ left
    → ReadSoFar s d left r q w v → Whole s d chunk t e v x → Consumes q p chunk → ReadSoFar t e next r p w x
so_then s d chunk t e left next r q p w v x one a b came =
    let cs : List (List ℕ) = a.0 ++ chunk ∷ [] in
    let c = on_with s d chunk t e r q p w v x a.0 a.1 a.3 a.4 a.5 b came (joined cs) (joined_then a.0 chunk) in
    (cs, a.1 ++ b.0, count_then a.0 chunk left next one a.2, c.0, c.1, c.2)

pub so_far_read : (s : List ℕ) (e : Desk) (left : ℕ) (r q w v : Known) → SoFar s e left r q w v → ReadSoFar s e left r q w v
so_far_read s e left r q w v a = (a.0, a.1, a.2, a.4, a.5, a.6)

pub so_quiet : (s : List ℕ) (d : Desk) (left : ℕ) (r q w v : Known) → SoFar s d left r q w v → d.listing ≡ None
so_quiet s d left r q w v a = a.4.4

-- the last reply, where all is well
pub answered_whole : (s : List ℕ) (e : Desk) (last input bytes : List ℕ) → Answered s e input bytes → last ≡ ending (line_of e)
    → bytes ++ last ≡ transcript input
answered_whole s e last input bytes a end =
    ap (λ (xs : List ℕ). bytes ++ xs) end ∙ delivered input bytes s a.0 e a.1 a.2 a.3 a.4

module _ (s : List ℕ) (e : Desk) (last : List ℕ) (left : ℕ) (r q w v : Known) (a : SoFar s e left r q w v) where
  whole_transcript : last ≡ ending (line_of e) → a.1 ++ last ≡ transcript (joined a.0)
  whole_transcript = answered_whole s e last (joined a.0) a.1 a.4

  pub ran_well : (ok : Bool) → last ≡ ending (line_of e) → Ran s e ok last left
  ran_well ok end = (a.0, a.1, a.2, a.3, a.4, λ well. whole_transcript end)

  pub ran_ill : (ok : Bool) → ok ≡ false → Ran s e ok last left
  ran_ill ok ill = (a.0, a.1, a.2, a.3, a.4, λ well. absurd (false≢true (sym ill ∙ well)))

  module _ (x : Known) (end : last ≡ ending (line_of e)) (sent : Appends v x last) where
    whole_written : Appends w x (transcript (joined a.0))
    whole_written = subst (Appends w x) (whole_transcript end) (Appends-trans w v x a.1 last a.6 sent)

    pub transcribed : IsAtEnd q → Transcribed r q w x
    transcribed done = (joined a.0, a.5, done, whole_written)

    pub out_of_reads : left ≡ 0 → OutOfReads r q w x
    out_of_reads none = (joined a.0, omega (arith, many_bytes a.0 a.3, a.2, none), a.5, whole_written)

-- where a read brought nothing
pub whole_none : (s : List ℕ) (d : Desk) (w : Known) → d.listing ≡ None → Whole s d [] s d w w
whole_none s d w quiet = ([], over, quiet, Appends-nil w)

-- a read that brought nothing, and one that says so
pub nothing_read : (s : List ℕ) (d : Desk) (w : Known) (chunk : List ℕ) → d.listing ≡ None → length chunk ≡ 0
    → (chunk ≡ []) × Whole s d chunk s d w w
nothing_read s d w [] quiet e = (refl, whole_none s d w quiet)
nothing_read s d w (b ∷ bs) quiet e = absurd (omega arith)

pub none_read : (s : List ℕ) (d : Desk) (n : ℕ) (input t : List ℕ) (w v : Known) (a : Result (Option Desk) Failure)
    → Turned s d (take n input) t w v a → a ≡ Ok None → n ≤ length input → n ≡ 0
none_read s d n input t w v a turned is h =
    let none = subst (λ (b : Result (Option Desk) Failure). Turned s d (take n input) t w v b) is turned in
    let long : length (take n input) ≡ n = simp length-take (omega arith) in
    omega (arith, long, ap length none.0)

-- a failure that is handed up
pub turned_failed : (s : List ℕ) (d : Desk) (w : Known) (a : Result (Option Desk) Failure) → d.listing ≡ None → IsErr a
    → IfErr a (λ f. f ≡ Reading) → Turned s d [] s w w a
turned_failed s d w (Ok o) quiet ill f = absurd (false≢true ill)
turned_failed s d w (Err Reading) quiet ill f = (refl, whole_none s d w quiet)
turned_failed s d w (Err Writing) quiet ill f = tt
turned_failed s d w (Err Ending) quiet ill f = cc

-- what a read leaves
module _ (s : List ℕ) (d : Desk) (left : ℕ) (r q w v : Known) (a : SoFar s d left r q w v) (chunk t : List ℕ) (p x : Known)
    (came : Consumes q p chunk) where
  pub more_read : (next : ℕ) (o : Option Desk) (e : Desk) → next + 1 ≡ left → Turned s d chunk t v x (Ok o) → o ≡ Some e
      → SoFar t e next r p w x
  more_read next o e one turned is =
      let b = subst (λ (i : Option Desk). Turned s d chunk t v x (Ok i)) is turned in
      so_some s d chunk t e left r q p w v x a b.1 came next one b.0

  pub all_read : (room : ℕ) (o : Option Desk) → Turned s d chunk t v x (Ok o) → o ≡ None → (0 < room → IsAtEnd p)
      → ServedAll t room r p w x (Ok d)
  all_read room o turned is end =
      let b = subst (λ (i : Option Desk). Turned s d chunk t v x (Ok i)) is turned in
      (left, so_still s d chunk t d left r q p w v x a b.1 came b.0, inr end)

  pub read_failed : (room : ℕ) (f : Failure) (b : Result Desk Failure) → Turned s d chunk t v x (Err f) → IsErr b → IfErr b (λ g. g ≡ f)
      → ServedAll t room r p w x b
  read_failed room f (Ok e) turned ill same = absurd (false≢true ill)
  read_failed room f (Err Reading) turned ill same =
      let b = subst (λ (g : Failure). Turned s d chunk t v x (Err g)) (sym same) turned in
      (d, left, so_still s d chunk t d left r q p w v x a b.1 came b.0)
  read_failed room f (Err Writing) turned ill same = tt
  read_failed room f (Err Ending) turned ill same = subst (λ (g : Failure). Turned s d chunk t v x (Err g)) (sym same) turned

-- the end of a run
module _ {A : Type 0} (s out : List ℕ) (room : ℕ) (r q w v : Known) where
  pub ended_failed : (f : Failure) (b : Result A Failure) → ServedAll s room r q w v (Err f) → IsErr b → IfErr b (λ g. g ≡ f)
      → Ended s out room r q w v b
  ended_failed f (Ok u) a ill same = absurd (false≢true ill)
  ended_failed f (Err Reading) a ill same =
      let b = subst (λ (g : Failure). ServedAll s room r q w v (Err g)) (sym same) a in
      (b.0, b.1, ran_ill s b.0 [] b.1 r q w v b.2 false refl)
  ended_failed f (Err Writing) a ill same = tt
  ended_failed f (Err Ending) a ill same = absurd (subst (λ (g : Failure). ServedAll s room r q w v (Err g)) (sym same) a)

  pub ended_all : (x : Known) (e : Desk) (b : Result A Failure) → ServedAll s room r q w v (Ok e)
      → (put : ℕ) × (take put out ≡ ending (line_of e)) × OnOk b (Appends v x (take put out)) → IfErr b (λ f. f ≡ Ending)
      → Ended s out room r q w x b
  ended_all x e (Ok u) a last f =
      let bytes : List ℕ = take last.0 out in (
        e,
        last.0,
        a.0,
        ran_well s e bytes a.0 r q w v a.1 true last.1,
        elim a.2 [
          | inl z ↦ inl (z, out_of_reads s e bytes a.0 r q w v a.1 x last.1 last.2 z)
          | inr h ↦ inr (λ k. transcribed s e bytes a.0 r q w v a.1 x last.1 last.2 (h k))
        ],
      )
  ended_all x e (Err Reading) a last f = absurd cc
  ended_all x e (Err Writing) a last f = absurd cc
  ended_all x e (Err Ending) a last f = (e, last.0, a.0, ran_well s e (take last.0 out) a.0 r q w v a.1 true last.1)
