use Rattle.std.proofs.Common.{◌+◌, ◌≤◌, length}
use Rattle.std.specs.Iterator.Adapters.{zip_first, zip_second}
use Rattle.index.specs.Calls.{state_of}
use Rattle.player.specs.Histories.{longest_script, lines_of}
use Rattle.player.specs.Lines.{Replied}
use Rattle.player.proofs.Playing.{SoFar}
use Rattle.player.proofs.history.play.Given as goal

-- the numbers of the lines left fit, and the lines so far are played and printed
abbrev pub invariant-loop-number : goal.invariant-loop-number
invariant-loop-number g l =
    let n = (zip_first l.number-iterator).start in
    let left = lines_of (zip_second l.number-iterator).rest.now in
    (goal.iterator-loop-number g).can_next l.number-iterator
    × (goal.iterator-loop-number g).is_finite l.number-iterator
    × (n + length left ≤ longest_script + 2)
    × SoFar (Replied g.L.Latch.face g.C.Coding.accepts g.C.Coding.bytes g.C.ScriptKey.reads) (state_of l.initial.index) (lines_of l.fn.lines.rest.now) l.initial.out l.initial.place.at (state_of l.index) n left l.out l.place.at
