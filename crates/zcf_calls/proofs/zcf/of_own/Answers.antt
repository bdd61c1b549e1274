use Rattle.zcf_calls.proofs.zcf.of_own.Goals as goal

pub returns-in-getInstance : goal.returns-in-getInstance
returns-in-getInstance c = rw c.in-getInstance.is (c.outcome_of_reading.ensures _ c.get_instance.ensures)

pub returns-in-getZoeService : goal.returns-in-getZoeService
returns-in-getZoeService c = rw c.in-getZoeService.is (c.outcome_of_reading-in-getZoeService.ensures _ c.get_zoe_service.ensures)

pub returns-in-getInvitationIssuer : goal.returns-in-getInvitationIssuer
returns-in-getInvitationIssuer c = rw c.in-getInvitationIssuer.is (c.outcome_of_reading-in-getInvitationIssuer.ensures _ c.get_invitation_issuer.ensures)
