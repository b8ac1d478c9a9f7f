-- Calls of serve, one after another, put the transcript: each puts the front of what is still to be written.
use mathlib.Core.Path.{◌≡◌, refl, sym, ap, ◌∙◌}
use mathlib.Core.List.{List, [], ◌∷◌}
use Prim.Native.Nat.{ℕ, ◌≤◌}
use native.Mathlib.Decide.{ℕ_discrete}
use native.Mathlib.Omega.{arith}
use lib.ListN.{length, take, drop, replicate, length-take}
use lib.Seq.{take_at}
use borrow.Author.Tests.{eq-eqb, ne_eqb}
use Rattle.lines.specs.declared.Reply.TheVariants.{WrongLine}
use Rattle.lines.specs.Reply.{reply_line}
use Rattle.lines.proofs.Promises.{reply_fits}
use Rattle.desk.specs.declared.Desk.{Desk}
use Rattle.desk.specs.Transcript.{Served, before, ending, served, store_words, transcript}
use Rattle.desk.specs.Serving.{line_of, rest_of, Run, over, call, finished, Delivered, EndPut}
use Rattle.desk.proofs.LineLaws.{written_long}
use Rattle.desk.proofs.ServeLaws.{before_twice, rest_quiet}

whole : {s : List ℕ} {d : Desk} {input bytes t : List ℕ} {e : Desk} → Run s d input bytes t e
    → rest_of s d input ≡ before bytes (rest_of t e [])
whole over = refl
whole {bytes = bytes} (call chunk more out out' r step rest) =
    step.says more ∙ ap (before (take r.put out')) (whole rest) ∙ sym (before_twice (take r.put out') _ _)

pub delivered : Delivered
unfolding served transcript
delivered input bytes t d e empty none run quiet =
    let s : List ℕ = replicate store_words 0 in
    let rest : rest_of s d input ≡ served s [] input =
    rest_quiet s d input none ∙ ap (λ (l : List ℕ). served s l input) empty in
    sym (ap (λ (a : Served). a.bytes) (sym rest ∙ whole run ∙ ap (before bytes) (rest_quiet t e [] quiet)))

-- the reply to an unfinished line
ending_some : (bs : List ℕ) → 1 ≤ length bs → ending bs ≡ reply_line WrongLine
unfolding ending
ending_some [] h = absurd (omega arith)
ending_some (b ∷ bs) h = refl

pub end_put : EndPut
unfolding finished line_of ending
end_put d out long room =
    elim (ℕ_discrete d.held 0) [
      | yes e ↦ rw (eq-eqb d.held 0 e, finished, e)
      | no e ↦
          rw (ne_eqb d.held 0 e, finished, written_long WrongLine out room)
          (take_at (reply_line WrongLine) (drop 45 out) 45 (reply_fits WrongLine)
          ∙ sym (ending_some (take d.held d.line) (simp length-take (omega arith))))
    ]
