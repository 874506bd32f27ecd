use Rattle.std.specs.Prelude.{◌≡◌, ℕ, Option}
use Rattle.nodes.specs.declared.child.Edge.{Edge}
use Rattle.nodes.specs.declared.edges.Edges.{Edges}
use Rattle.nodes.specs.View.{View, Advances}

-- the node whose children are walked
abbrev pub walked : {B : Type 0} → Edges B → B
walked it = it.node.now

-- the byte that the walk has come to
abbrev pub reached : {B : Type 0} → Edges B → ℕ
reached it = it.start

-- one step of a walk: the next child, if there is one
abbrev pub Walks : {B : Type 0} → (B → View) → Edges B → Option Edge → Edges B → Type 0
Walks view s r t = (walked t ≡ walked s) × Advances (view (walked s)) (reached s) r (reached t)
