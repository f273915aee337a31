use Rattle.std.proofs.Common.{ap, sym}
use Rattle.host_report.specs.Fields.{fields_text}
use Rattle.host_report.specs.Table.{event_fields}
use Rattle.host_report.proofs.LineLemmas.{puts_as}
use Rattle.host_report.proofs.event.put_event.Goals as goal

pub returns-in-New : goal.returns-in-New
returns-in-New g c = puts_as (ap (λ told. fields_text (event_fields told)) (sym c.in-New.is)) c.put_new.ensures

pub returns-in-Rule : goal.returns-in-Rule
returns-in-Rule g c = puts_as (ap (λ told. fields_text (event_fields told)) (sym c.in-Rule.is)) c.put_rule.ensures

pub returns-in-Enter : goal.returns-in-Enter
returns-in-Enter g c = puts_as (ap (λ told. fields_text (event_fields told)) (sym c.in-Enter.is)) c.put_named.ensures

pub returns-in-EnterHandle : goal.returns-in-EnterHandle
returns-in-EnterHandle g c = puts_as (ap (λ told. fields_text (event_fields told)) (sym c.in-EnterHandle.is)) c.put_named-in-EnterHandle.ensures

pub returns-in-Lookup : goal.returns-in-Lookup
returns-in-Lookup g c = puts_as (ap (λ told. fields_text (event_fields told)) (sym c.in-Lookup.is)) c.put_lookup.ensures

pub returns-in-Ask : goal.returns-in-Ask
returns-in-Ask g c = puts_as (ap (λ told. fields_text (event_fields told)) (sym c.in-Ask.is)) c.put_ask.ensures

pub returns-in-Publish : goal.returns-in-Publish
returns-in-Publish g c = puts_as (ap (λ told. fields_text (event_fields told)) (sym c.in-Publish.is)) c.put_publish.ensures

pub returns-in-Place : goal.returns-in-Place
returns-in-Place g c = puts_as (ap (λ told. fields_text (event_fields told)) (sym c.in-Place.is)) c.put_placing.ensures

pub returns-in-LoadStatic : goal.returns-in-LoadStatic
returns-in-LoadStatic g c = puts_as (ap (λ told. fields_text (event_fields told)) (sym c.in-LoadStatic.is)) c.put_load.ensures

pub returns-in-StoreStatic : goal.returns-in-StoreStatic
returns-in-StoreStatic g c = puts_as (ap (λ told. fields_text (event_fields told)) (sym c.in-StoreStatic.is)) c.put_store.ensures

pub returns-in-Hold : goal.returns-in-Hold
returns-in-Hold g c = puts_as (ap (λ told. fields_text (event_fields told)) (sym c.in-Hold.is)) c.put_hold.ensures

pub returns-in-DropHandle : goal.returns-in-DropHandle
returns-in-DropHandle g c = puts_as (ap (λ told. fields_text (event_fields told)) (sym c.in-DropHandle.is)) c.put_named-in-DropHandle.ensures

pub returns-in-Weak : goal.returns-in-Weak
returns-in-Weak g c = puts_as (ap (λ told. fields_text (event_fields told)) (sym c.in-Weak.is)) c.put_weak.ensures

pub returns-in-Alive : goal.returns-in-Alive
returns-in-Alive g c = puts_as (ap (λ told. fields_text (event_fields told)) (sym c.in-Alive.is)) c.put_named-in-Alive.ensures

pub returns-in-Unload : goal.returns-in-Unload
returns-in-Unload g c = puts_as (ap (λ told. fields_text (event_fields told)) (sym c.in-Unload.is)) c.put_named-in-Unload.ensures

pub returns-in-Collect : goal.returns-in-Collect
returns-in-Collect g c = puts_as (ap (λ told. fields_text (event_fields told)) (sym c.in-Collect.is)) c.put_collect.ensures

pub returns-in-Leave : goal.returns-in-Leave
returns-in-Leave g c = puts_as (ap (λ told. fields_text (event_fields told)) (sym c.in-Leave.is)) c.put_counted.ensures
