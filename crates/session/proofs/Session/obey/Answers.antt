-- `session::Session::obey` meets its contract: an open site is asked by `call`; before site only opening is no refusal. Assumes nothing.
use Rattle.std.proofs.Common.{ℕ, ◌≡◌, ◌≢◌, refl, length}
use Rattle.forms.specs.declared.Refusal.TheVariants.{OutOfTurn}
use Rattle.rules.specs.State.{refused}
use Rattle.forms.specs.declared.reader.CommandForm.{CommandForm}
use Rattle.site.specs.Model.{lent}
use Rattle.session.specs.Model.{closed_reply}
use Rattle.session.specs.TurnLaws.{form_called, form_refused, form_opens, form_unread}
use Rattle.session.proofs.Session.obey.Goals as goal

-- the forms but `SiteOf`
no-site : (room : ℕ) (f : CommandForm) → ((n : ℕ) → f ≢ CommandForm.SiteOf n) → closed_reply room f ≡ refused OutOfTurn
unfolding closed_reply
no-site room (CommandForm.SiteOf n) s = absurd (s n refl)
no-site room (CommandForm.Add i a) s = refl
no-site room (CommandForm.Finish i) s = refl
no-site room (CommandForm.Withdraw i) s = refl
no-site room (CommandForm.Persistent n) s = refl
no-site room (CommandForm.Stable n) s = refl
no-site room (CommandForm.Show h) s = refl
no-site room (CommandForm.Cut k) s = refl
no-site room (CommandForm.Redo d) s = refl
no-site room CommandForm.End s = refl

pub returns-in_default : goal.returns-in_default
returns-in_default c =
    let a = c.args in
    rw c.in_default.is
    (form_unread a.self (lent a.log.now a.rows.now a.order.now a.book.now a.lists.now) _ c.requires c.refuse.ensures)

pub returns-in-Some-site : goal.returns-in-Some-site
returns-in-Some-site c =
    let a = c.args in
    rw c.in-Some.is
    (form_called a.self c.in-Some-site.site (lent a.log.now a.rows.now a.order.now a.book.now a.lists.now) c.in-Some.form _ _ _
    c.in-Some-site.is c.requires c.call.ensures c.called.ensures)

pub returns-in-SiteOf : goal.returns-in-SiteOf
returns-in-SiteOf c =
    let a = c.args in
    rw (c.in-Some.is, c.in-SiteOf.is)
    (form_opens a.self (lent a.log.now a.rows.now a.order.now a.book.now a.lists.now) c.in-SiteOf.n _ _ c.in-None.is
    (c.open_site.ensures a.lists.now))

pub returns-in_default-form : goal.returns-in_default-form
returns-in_default-form c =
    let a = c.args in
    rw c.in-Some.is
    (form_refused a.self (lent a.log.now a.rows.now a.order.now a.book.now a.lists.now) c.in-Some.form OutOfTurn _
    c.in-None.is (no-site (length a.log.now) c.in-Some.form c.in_default-form.not-SiteOf) c.requires c.refuse-in_default-form.ensures)
