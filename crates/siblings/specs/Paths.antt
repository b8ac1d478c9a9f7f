-- The marks of a path.
--   path_marks ts ms == the marks ms, with those of the nodes of the path ts
use Rattle.std.specs.Prelude.{List, [], ◌∷◌, false, ℕ, set}
use Rattle.search.specs.declared.Step.{Step}
use Rattle.siblings.specs.Marks.{mark}

abbrev pub path_marks : List Step → List ℕ → List ℕ
path_marks [] ms = ms
path_marks (t ∷ ts) ms = path_marks ts (set ms t.node (mark false t.used))
