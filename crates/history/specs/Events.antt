-- What calls ask for, what happened at them, and what is published then.
use Rattle.std.specs.Prelude.{Bool, true, false, cond, List, [], ◌∷◌, ◌++◌}
use Rattle.cdb.specs.Records.{Record}
use Rattle.shelf.specs.Publishes.{ends_draft}
use Rattle.history.specs.declared.calls.State.{State}
use Rattle.history.specs.declared.calls.State.TheVariants.{Idle, Adding, Ready, Ended}
use Rattle.history.specs.declared.calls.Call as calls
use Rattle.history.specs.declared.calls.Call.TheVariants as call
use Rattle.history.specs.declared.calls.Answer.{Answer}
use Rattle.history.specs.declared.calls.Answer.TheVariants.{Done, Refused, Unfit}

-- what a call asks for
pub data Request : Type 0 where
  to_open : Request
  to_begin : Request
  to_add : Record → Request
  to_finish : Request
  to_publish : Request
  to_abandon : Request

abbrev pub request : calls.Call → Request
request call.Open = to_open
request call.Begin = to_begin
request (call.Add k v) = to_add (record { key = k.now; data' = v.now })
request call.Finish = to_finish
request call.Publish = to_publish
request call.Abandon = to_abandon

-- which calls build on which state; an open lets go of the state at hand
abbrev pub builds : State → Request → Bool
builds (Idle s) to_open = true
builds (Idle s) to_begin = true
builds (Idle s) (to_add r) = false
builds (Idle s) to_finish = false
builds (Idle s) to_publish = false
builds (Idle s) to_abandon = false
builds (Adding d) to_open = true
builds (Adding d) to_begin = false
builds (Adding d) (to_add r) = true
builds (Adding d) to_finish = true
builds (Adding d) to_publish = false
builds (Adding d) to_abandon = true
builds (Ready f) to_open = true
builds (Ready f) to_begin = false
builds (Ready f) (to_add r) = false
builds (Ready f) to_finish = false
builds (Ready f) to_publish = true
builds (Ready f) to_abandon = true
builds Ended to_open = true
builds Ended to_begin = false
builds Ended (to_add r) = false
builds Ended to_finish = false
builds Ended to_publish = false
builds Ended to_abandon = false

-- what happened at a call, as far as it bears on what is published
pub data Event : Type 0 where
  began : Event
  added : Record → Event
  published : Event
  -- a publish was refused with 21
  interrupted : Event
  -- any other call, done or refused
  other : Event

abbrev pub event : Request → Answer → Event
event to_open a = other
event to_begin Done = began
event to_begin (Refused f) = other
event to_begin Unfit = other
event (to_add r) Done = added r
event (to_add r) (Refused f) = other
event (to_add r) Unfit = other
event to_finish a = other
event to_publish Done = published
event to_publish (Refused f) = cond (ends_draft f) interrupted other
event to_publish Unfit = other
event to_abandon a = other

-- an event that is no publication
abbrev pub Quiet : Event → Type 0
Quiet began = Unit {0}
Quiet (added r) = Unit {0}
Quiet published = ⊥
Quiet interrupted = ⊥
Quiet other = Unit {0}

-- after these events the draft has the records of the done adds since its begin, and these records are published: none after a format,
-- those of the draft after a done publish, and after an interrupted one those or the former
pub data Published : List Event → (draft live : List Record) → Type 0 where
  none : Published [] [] []
  begins : {h : List Event} {draft live : List Record} → Published h draft live → Published (h ++ began ∷ []) [] live
  adds : {h : List Event} {draft live : List Record} (r : Record) → Published h draft live → Published (h ++ added r ∷ []) (draft ++ r ∷ []) live
  publishes : {h : List Event} {draft live : List Record} → Published h draft live → Published (h ++ published ∷ []) draft draft
  new : {h : List Event} {draft live : List Record} → Published h draft live → Published (h ++ interrupted ∷ []) draft draft
  former : {h : List Event} {draft live : List Record} → Published h draft live → Published (h ++ interrupted ∷ []) draft live
  others : {h : List Event} {draft live : List Record} → Published h draft live → Published (h ++ other ∷ []) draft live
