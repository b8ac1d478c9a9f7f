-- What the definitions of this crate give, damage included: records with `ok`, which is false where damage was met (the other fields are 0
-- then), and cases. The code returns `Err DamageMet` there, and else the fields without `ok`.
--   Visit     == what a visit of a node on a path gives: the key's entry, its local depth and its pointer
--   Descent   == the way of a key down: its page (0: null), the bits used, and the step of each level, level 1 first
--   Terminal  == the terminal node of a key, and the bits used before it
--   End       == where the way of a key ends: its terminal node, the bits used before that, its page and the bits used before that
--   Span      == records of one page that next gives in turn (page 0: none)
--   Sought    == a record, none, or damage
--   Reached   == where the way on from an entry leads: to a page, past the last one, or to damage
--   Hop       == what the forward link of a node leads to: an end, or the next node
--   sound_visit, sound_descent, sound_terminal, sound_end, sound_span == the record, with `ok`, of a value of the code
--   answered ok x == x, or damage
--   visit_result, descent_result, terminal_result, end_result, span_result, span_option, sought_result, reached_result,
--     hop_result == what the code returns
use Rattle.std.specs.Prelude.{Option, Some, None, Result, Ok, Err, Bool, true, false, List, ℕ, eqb}
use Rattle.answers.specs.declared.Refusal.{Refusal}
use Rattle.answers.specs.declared.Refusal.TheVariants.{DamageMet}
use Rattle.store.specs.declared.Item.{Item}
use Rattle.search.specs.declared.Step.{Step}

pub record Visit : Type 0 where
  pub ok : Bool
  pub entry : ℕ
  pub depth : ℕ
  pub pointer : ℕ

pub record Descent : Type 0 where
  pub ok : Bool
  pub page : ℕ
  pub used : ℕ
  pub steps : List Step

pub record Terminal : Type 0 where
  pub ok : Bool
  pub node : ℕ
  pub used : ℕ

pub record End : Type 0 where
  pub ok : Bool
  pub node : ℕ
  pub before : ℕ
  pub page : ℕ
  pub used : ℕ

pub record Span : Type 0 where
  pub ok : Bool
  pub page : ℕ
  pub from : ℕ
  pub to : ℕ
  pub last : ℕ
  pub node : ℕ
  pub used : ℕ
  pub behind : ℕ

pub data Sought : Type 0 where
  Record : Item → Sought
  Nothing : Sought
  Damaged : Sought

pub data Reached : Type 0 where
  Page : ℕ → Reached
  Past : Reached
  Broken : Reached

pub data Hop : Type 0 where
  Ends : Reached → Hop
  On : ℕ → Hop

abbrev pub sound_visit : Rattle.search.specs.declared.Visit.Visit → Visit
sound_visit v = record { ok = true; entry = v.entry; depth = v.depth; pointer = v.pointer }

abbrev pub sound_descent : Rattle.search.specs.declared.Descent.Descent → Descent
sound_descent d = record { ok = true; page = d.page; used = d.used; steps = d.steps }

abbrev pub sound_terminal : Rattle.search.specs.declared.Terminal.Terminal → Terminal
sound_terminal t = record { ok = true; node = t.node; used = t.used }

abbrev pub sound_end : Rattle.search.specs.declared.End.End → End
sound_end e = record { ok = true; node = e.node; before = e.before; page = e.page; used = e.used }

abbrev pub sound_span : Rattle.search.specs.declared.Span.Span → Span
sound_span r =
    record { ok = true; page = r.page; from = r.from; to = r.to; last = r.last; node = r.node; used = r.used; behind = r.behind }

-- a value of the code, or damage
abbrev pub answered : {A : Type 0} → Bool → A → Result A Refusal
answered true x = Ok x
answered false x = Err DamageMet

abbrev pub visit_result : Visit → Result Rattle.search.specs.declared.Visit.Visit Refusal
visit_result v = answered v.ok (record { entry = v.entry; depth = v.depth; pointer = v.pointer })

abbrev pub descent_result : Descent → Result Rattle.search.specs.declared.Descent.Descent Refusal
descent_result d = answered d.ok (record { page = d.page; used = d.used; steps = d.steps })

abbrev pub terminal_result : Terminal → Result Rattle.search.specs.declared.Terminal.Terminal Refusal
terminal_result t = answered t.ok (record { node = t.node; used = t.used })

abbrev pub end_result : End → Result Rattle.search.specs.declared.End.End Refusal
end_result e = answered e.ok (record { node = e.node; before = e.before; page = e.page; used = e.used })

-- page 0: none
abbrev pub span_option : Span → Option Rattle.search.specs.declared.Span.Span
span_option r =
    elim (eqb r.page 0) [
      | true ↦ None
      | false ↦ Some (record { from = r.from; page = r.page; to = r.to; node = r.node; behind = r.behind; used = r.used; last = r.last })
    ]

abbrev pub span_result : Span → Result (Option Rattle.search.specs.declared.Span.Span) Refusal
span_result r = answered r.ok (span_option r)

abbrev pub sought_result : Sought → Result (Option Item) Refusal
sought_result (Record it) = Ok (Some it)
sought_result Nothing = Ok None
sought_result Damaged = Err DamageMet

abbrev pub reached_result : Reached → Result (Option ℕ) Refusal
reached_result (Page p) = Ok (Some p)
reached_result Past = Ok None
reached_result Broken = Err DamageMet

abbrev pub hop_result : Hop → Result (Option ℕ) Refusal
hop_result (Ends a) = reached_result a
hop_result (On m) = Ok (Some m)
