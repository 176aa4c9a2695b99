use Rattle.std.proofs.Common.{◌≡◌, ℕ, ◌+◌, ◌*◌, ◌%◌, ◌≤◌, List, Ok, Err, sym, refl, ap, ◌∙◌, subst, arith, rules}
use Rattle.std.proofs.lemmas.Result.{err_from_is_err_and}
use Rattle.byte_lists.specs.Bytes.{word_at}
use Rattle.faults.specs.declared.device.DeviceFault.{DeviceFault}
use Rattle.faults.specs.declared.file.FileFault.TheVariants.{Range, Device}
use Rattle.faults.specs.Reports.{located}
use Rattle.device.specs.Meanings.{Meaning}
use Rattle.cdb.specs.Records.{hash_of}
use Rattle.file.specs.declared.extents.Extent.{Extent}
use Rattle.file.specs.Ranges.{AllRead, FirstBad}
use Rattle.file.specs.Extents.{On, file}
use Rattle.lookup.specs.declared.cursors.Cursor.{Cursor}
use Rattle.lookup.specs.Starts.{Start, outside, short, entry_bad, started, fresh}
use Rattle.lookup.proofs.Placed.{words_read, words_refused}
use Rattle.lookup.proofs.One.{start_alone}
use Rattle.lookup.proofs.starting.start_hashed.Goals as goal

pub returns-then-not-is_on : goal.returns-then-not-is_on
returns-then-not-is_on g c = start_alone _ _ _ (Err Range) (outside (λ h. grind arith)) refl

pub returns-then-extent-lt2048 : goal.returns-then-extent-lt2048
returns-then-extent-lt2048 g c = start_alone _ _ _ _ (short (search rules) c.if-extent-lt2048.true) refl

entry-refused : (m : Meaning) (e : Extent) (key : List ℕ) (h : ℕ) (f : DeviceFault) → h ≡ hash_of key → On m e → 2048 ≤ e.len
    → FirstBad m (e.start + 8 * (h % 256)) 8 f → Start m e key (Err (Device (located f (h % 256) (8 * (h % 256)))))
entry-refused m e key h f q on l b =
    subst (λ (x : ℕ). Start m e key (Err (Device (located f (x % 256) (8 * (x % 256)))))) (sym q)
    (entry_bad on l (subst (λ (x : ℕ). FirstBad m (e.start + 8 * (x % 256)) 8 f) q b))

pub returns-in_err-words : goal.returns-in_err-words
returns-in_err-words g c =
    let m : Meaning = g.D.Device.meaning c.args.d.now in
    let e : Extent = c.args.extent in
    let h : ℕ = c.args.key.hash in
    let on : On m e = search rules in
    let r = err_from_is_err_and c.from_residual.result c.from_residual.ensures.1 in
    let b = words_refused m e (h % 256) (8 * (h % 256)) c.read_words.result c.add_place.result c.read_words.ensures.read c.add_place.ensures c.in_err-words.field-0.0 c.in_err-words.was in
    let a : Start m e c.args.key.bytes.now c.from_residual.result = rw (r.1, r.2, b.2) (entry-refused m e c.args.key.bytes.now h b.0 c.args.key.hashed on c.if-extent-lt2048.false b.1) in
    start_alone m e c.args.key.bytes.now _ a c.read_words.ensures.same

-- the cursor that start makes
abbrev made : Extent → ℕ → ℕ → ℕ → Cursor
made e h p s = record { extent = e; hash = h; position = p; slots = s; probed = 0 }

pub returns : goal.returns
returns g c =
    let m : Meaning = g.D.Device.meaning c.args.d.now in
    let e : Extent = c.args.extent in
    let h : ℕ = c.args.key.hash in
    let on : On m e = search rules in
    let w = words_read m e (h % 256) (8 * (h % 256)) c.read_words.result c.add_place.result c.read_words.ensures.read c.add_place.ensures c.in_ok-words.words (omega arith) c.in_ok-words.was in
    let f : List ℕ = file m e in
    let same : made e h c.in_ok-words.words.first c.in_ok-words.words.second ≡ fresh m e c.args.key.bytes.now =
    ap (λ (x : ℕ). made e h x c.in_ok-words.words.second) w.1 ∙ ap (λ (x : ℕ). made e h (word_at f (8 * (h % 256))) x) w.2
    ∙ ap (λ (x : ℕ). made e x (word_at f (8 * (x % 256))) (word_at f (8 * (x % 256) + 4))) c.args.key.hashed in
    let a = subst (λ (x : Cursor). Start m e c.args.key.bytes.now (Ok x)) (sym same)
    (started on c.if-extent-lt2048.false (subst (λ (x : ℕ). AllRead m (e.start + 8 * (x % 256)) 8) c.args.key.hashed w.0.1)) in
    start_alone m e c.args.key.bytes.now _ a c.read_words.ensures.same
