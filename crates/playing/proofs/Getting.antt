-- A lookup of all data of a key gives what is published.
use Rattle.std.proofs.Common.{◌≡◌, ℕ, List, Some, Ok, Err, Result, sym, subst}
use Rattle.std.specs.Global.{Vec}
use Rattle.faults.specs.declared.file.FileFault.{FileFault}
use Rattle.device.specs.Meanings.{Meaning}
use Rattle.cdb.specs.Records.{Record}
use Rattle.cdb.specs.Rules.{Lawful}
use Rattle.file.specs.declared.extents.Extent.{Extent}
use Rattle.file.specs.Extents.{file, Readable}
use Rattle.gathering.specs.declared.gather.GatherFault.TheVariants.{File}
use Rattle.gathering.specs.Gathers.{data_with}
use Rattle.gathering.proofs.Gathering.{gathers_records}
use Rattle.shelf.specs.States.{Live, LiveExtent}
use Rattle.history.specs.declared.calls.State.{State}
use Rattle.history.specs.declared.calls.State.TheVariants.{Idle, Adding, Ready, Ended}
use Rattle.history.specs.Laws.{live_file, Tells}
use Rattle.history.proofs.Proved.{extent_file, histories_keep_published}
use Rattle.playing.specs.Steps.{Shows, Looked}
use Rattle.playing.specs.Laws.{IsData, GetsGivePublished}

-- the extent that a state shows is that of the live file that it tells
shown_live : (s : State) (e : Extent) (l : Live) → Shows s (Some e) → Tells s l → LiveExtent l e
shown_live (Idle s) e l x t = subst (λ (k : Live). LiveExtent k e) t x
shown_live (Adding d) e l x t = subst (λ (k : Live). LiveExtent k e) t x
shown_live (Ready f) e l x t = subst (λ (k : Live). LiveExtent k e) t x
shown_live Ended e l x t = absurd x

looked_data : (m : Meaning) (e : Extent) (rs : List Record) (key : List ℕ) (r : Result (Vec (Vec ℕ)) FileFault) → Readable m e → Lawful (file m e) rs → Looked m e key r → IsData r (data_with key rs)
looked_data m e rs key (Ok all) rd law g = gathers_records m e key (Ok all) g rs rd law
looked_data m e rs key (Err f) rd law g = gathers_records m e key (Err (File f)) g rs rd law

pub gets_give_published : GetsGivePublished
gets_give_published m n h s e hist shows rd =
    let k = histories_keep_published m n h s hist in
    let is : file n e ≡ live_file n k.live = extent_file n e k.live (shown_live s e k.live shows k.told) in
    let law : Lawful (file n e) k.records = subst (λ (q : List ℕ). Lawful q k.records) (sym is) k.lawful in
    record {
      draft = k.draft;
      records = k.records;
      published = k.published;
      gets = λ key r g. looked_data n e k.records key r rd law g;
    }
