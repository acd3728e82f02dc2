-- The page of a trace.
use Rattle.std.specs.Prelude.{ℕ, List, ◌++◌}
use Rattle.hp_svg.specs.declared.viewer.html.TheConstants.{BODY, END, HEAD, MIDDLE}
use Rattle.hp_svg.specs.declared.viewer.machine.TheConstants.{MACHINE}
use Rattle.hp_svg.specs.declared.viewer.panels.TheConstants.{PANELS}
use Rattle.hp_svg.specs.declared.viewer.style.TheConstants.{STYLE}
use Rattle.hp_svg.specs.declared.viewer.trace.TheConstants.{TRACE}
use Rattle.hp_svg.specs.declared.viewer.words.TheConstants.{WORDS}

-- the viewer, up to the lines of a trace
unfoldable pub viewer_before : List ℕ
viewer_before = HEAD.now ++ STYLE.now ++ BODY.now

-- the viewer's code that reads the lines
unfoldable pub viewer_rules : List ℕ
viewer_rules = MIDDLE.now ++ TRACE.now ++ WORDS.now

-- the viewer's code that draws the trace, and the end of the page
unfoldable pub viewer_drawing : List ℕ
viewer_drawing = MACHINE.now ++ PANELS.now ++ END.now

unfoldable pub viewer_after : List ℕ
viewer_after = viewer_rules ++ viewer_drawing
