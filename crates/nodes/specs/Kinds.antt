use Rattle.std.specs.Prelude.{ℕ}
use Rattle.nodes.specs.declared.sorted.Sorted.{Sorted}
use Rattle.nodes.specs.declared.placed.Placed.{Placed}
use Rattle.nodes.specs.declared.direct.Direct.{Direct}
use Rattle.nodes.specs.View.{View}
use Rattle.nodes.specs.Listed.{listed}
use Rattle.nodes.specs.Placing.{placed, direct}

-- the view of each layout
abbrev pub of_sorted : {n : ℕ} → Sorted n → View
of_sorted s = listed s.len s.edges

abbrev pub of_placed : Placed → View
of_placed s = placed s.places s.children

abbrev pub of_direct : Direct → View
of_direct s = direct s.children
