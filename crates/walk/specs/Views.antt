-- What is seen through a view.
use Rattle.platform.specs.Books.{Book}
use Rattle.platform.specs.Memories.{Mem}
use Rattle.platform.specs.Windows.{pane}
use Rattle.walk.specs.Sights.{Sight, sight}
use Rattle.walk.specs.declared.view.View.{View}

abbrev pub seen_by : {M B : Type 0} → (M → Mem) → (B → Book) → View M B → Sight
seen_by m b v = sight (m v.memory.now) ((b v.book.now).right v.guest) (pane v.window)
